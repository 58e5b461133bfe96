use Rattle.std.proofs.Common.{sym, ◌∙◌, arith}
use Rattle.iddqd_bi.proofs.MapLemmas.{AreLawful-ranks, agrees-keys}
use Rattle.iddqd_bi.specs.Keys.{ranks}
use Rattle.iddqd_bi.specs.Map.{bag}
use Rattle.iddqd_bi.specs.RefMuts.{ref_item, ref_map, ref_with}
use Rattle.iddqd_bi.proofs.CallerLemmas.Named.{only_written_twice}
use Rattle.caller_bi.proofs.writing.write1_twice.Goals as goal

-- the item keeps its keys, so the last write is of the item that the key names
pub returns-in-Some-clause-present : goal.returns-in-Some-clause-present
returns-in-Some-clause-present g c = λ x is.
    (let one = c.in-Some.ensures in
    let eq1 = g.T.K1.PartialEq.eq in
    let eq2 = g.T.K2.PartialEq.eq in
    let laws1 = g.met.T.K1.Eq.laws in
    let laws2 = g.met.T.K2.Eq.laws in
    let first : g.row.T.Denot → g.row.T.Denot = λ y. g.T.BiHashItemMut.put y c.args.first in
    let last : g.row.T.Denot → g.row.T.Denot = λ y. g.T.BiHashItemMut.put y c.args.last in
    let item = c.in-Some.item in
    let then = ref_with item first in
    let agree = agrees-keys g.T.BiHashItem eq1 eq2 x (first x) (laws1.symm _ _ ∙ g.met.T.BiHashItemMut.keeps_key1 x c.args.first) (laws2.symm _ _ ∙ g.met.T.BiHashItemMut.keeps_key2 x c.args.first) in
    rw (c.map-1.given.1 (sym one.same_map), c.drop-item.ensures)
    (only_written_twice (ranks g.T.BiHashItem eq1 eq2) (AreLawful-ranks g.T.BiHashItem laws1 laws2) (omega arith) first last c.args.map.now
    (ref_map item) (ref_map then) (bag (ref_map (ref_with then last))) (ref_item item) (ref_item then) x _ agree one.unchanged one.found is
    (c.data_mut.ensures.swaps c.args.first) (c.data_mut.ensures.writes c.args.first) (c.data_mut-in-Some.ensures.swaps c.args.last)))
