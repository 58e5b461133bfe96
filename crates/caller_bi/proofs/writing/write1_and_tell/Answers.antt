use Rattle.std.proofs.Common.{refl, sym}
use Rattle.iddqd_bi.specs.Keys.{ranks}
use Rattle.iddqd_bi.specs.Map.{bag}
use Rattle.iddqd_bi.specs.RefMuts.{ref_item, ref_map, ref_with}
use Rattle.iddqd_bi.proofs.CallerLemmas.Named.{only_written}
use Rattle.caller_bi.proofs.writing.write1_and_tell.Goals as goal

-- the borrowed item is the one that the key names
pub returns-in-Some-clause-present : goal.returns-in-Some-clause-present
returns-in-Some-clause-present g c = λ x is.
    (let one = c.in-Some.ensures in
    let write : g.row.T.Denot → g.row.T.Denot = λ y. g.T.BiHashItemMut.put y c.args.d in
    let ranks = ranks g.T.BiHashItem g.T.K1.PartialEq.eq g.T.K2.PartialEq.eq in
    rw (c.map-1.given.1 (sym one.same_map), c.drop.ensures) (
      refl,
      only_written ranks write c.args.map.now (ref_map c.in-Some.lent) (bag (ref_map (ref_with c.in-Some.lent write)))
          (ref_item c.in-Some.lent) x _ one.unchanged one.found is (c.data_mut.ensures.swaps c.args.d),
    ))
