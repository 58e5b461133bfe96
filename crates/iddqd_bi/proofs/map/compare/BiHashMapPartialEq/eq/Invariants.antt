use Rattle.std.proofs.Common.{◌≡◌}
use Rattle.std.specs.List.{list_all, list_any}
use Rattle.iddqd_store.specs.Map.{bag}
use Rattle.iddqd_store.specs.Bag.{same_item}
use Rattle.iddqd_bi.specs.Keys.{ranks}
use Rattle.iddqd_bi.proofs.map.compare.BiHashMapPartialEq.eq.Given as goal

-- the items so far have partners
abbrev pub invariant-loop-item : goal.invariant-loop-item
invariant-loop-item g l =
    let ranks = ranks g.T.BiHashItem g.T.K1.PartialEq.eq g.T.K2.PartialEq.eq in
    let has = λ (x : g.row.T.Denot). list_any (same_item ranks g.T.PartialEq.eq x) (bag l.other) in
    list_all has (bag l.self) ≡ list_all has l.item-iterator
