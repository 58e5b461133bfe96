use Rattle.std.proofs.Common.{sym, ◌∙◌, subst}
use Rattle.std.specs.Prelude.{IfSome, IsPermutation}
use Rattle.iddqd_bi.specs.Bag.{swap}
use Rattle.iddqd_bi.specs.Keys.{ranks}
use Rattle.iddqd_bi.specs.Map.{Map, bag}
use Rattle.iddqd_bi.specs.RefMuts.{ref_item, ref_map, ref_with}
use Rattle.iddqd_bi.proofs.EntryLemmas.{writes_occupied}
use Rattle.caller_bi.proofs.entries.insert_or_write.Goals as goal

-- the item that is borrowed is the one that both keys name
pub returns-in-Some-clause-writes : goal.returns-in-Some-clause-writes
returns-in-Some-clause-writes g c =
    let asked = c.in-Occupied.ensures in
    let into = c.into_mut-held in
    let one = c.in-Some.one in
    let eq1 = g.T.K1.PartialEq.eq in
    let eq2 = g.T.K2.PartialEq.eq in
    let ranks = ranks g.T.BiHashItem eq1 eq2 in
    let write : g.row.T.Denot → g.row.T.Denot = λ y. g.T.BiHashItemMut.put y c.args.d in
    let new = bag (ref_map (ref_with one write)) in
    let swaps = subst (λ (m : Map g.row.T.Denot g.row.S.Denot). IfSome (ref_item one) (λ y. IsPermutation new (swap ranks (bag m) y (write y))))
    c.in-Some.ensures.unchanged (c.data_mut.ensures.swaps c.args.d) in
    rw (c.map-in-Some-1.given.1 (sym (c.in-Some.ensures.same_map ∙ into.ensures.same_map ∙ asked.same_map)), c.drop-one.ensures)
    (writes_occupied g.T.BiHashItem (λ q. eq1 q.now)
    (λ q. eq2 q.now) ranks write c.in-Occupied.o into.result c.args.item c.args.key1 c.args.key2 c.args.map.now new (ref_item one) asked.is_found
    (into.ensures.holds asked.is_found) into.ensures.map asked.keys.key1 asked.keys.key2 asked.unchanged c.in-Some.ensures.item one.live swaps)
