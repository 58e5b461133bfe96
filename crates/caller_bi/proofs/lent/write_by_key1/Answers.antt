use Rattle.std.proofs.Common.{sym, ◌∙◌}
use Rattle.iddqd_bi.specs.Keys.{ranks}
use Rattle.iddqd_bi.specs.Map.{bag}
use Rattle.iddqd_bi.specs.RefMuts.{ref_item, ref_map, ref_with}
use Rattle.iddqd_bi.proofs.CallerLemmas.Named.{only_written}
use Rattle.caller_bi.proofs.lent.write_by_key1.Goals as goal

-- the item that is borrowed is the one that the first key names
pub returns-in-Some-clause-present : goal.returns-in-Some-clause-present
returns-in-Some-clause-present g c = λ x is.
    let asked = c.in-Occupied.ensures in
    let held = c.into_mut in
    let one = c.in-Some in
    let write : g.row.T.Denot → g.row.T.Denot = λ y. g.T.BiHashItemMut.put y c.args.d in
    let ranks = ranks g.T.BiHashItem g.T.K1.PartialEq.eq g.T.K2.PartialEq.eq in
    let found = (held.ensures.holds asked.is_found).by_key1 in
    rw (c.map-1.given.1 (sym (one.ensures.same_map ∙ held.ensures.same_map ∙ asked.same_map)), c.drop-item.ensures)
    (only_written ranks write c.args.map.now (ref_map one.item) (bag (ref_map (ref_with one.item write))) (ref_item one.item) x _ (one.ensures.unchanged
    ∙ held.ensures.map ∙ asked.unchanged) (rw (one.ensures.item, ← asked.unchanged, ← asked.keys.key1) found) is (c.data_mut.ensures.swaps c.args.d))
