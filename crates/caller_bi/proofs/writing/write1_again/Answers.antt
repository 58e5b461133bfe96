use Rattle.std.proofs.Common.{sym, ap, ◌∙◌}
use Rattle.std.specs.Option.{option_to_list}
use Rattle.iddqd_bi.specs.Keys.{ranks}
use Rattle.iddqd_bi.specs.Map.{bag}
use Rattle.iddqd_bi.specs.RefMuts.{ref_item, ref_map, ref_with}
use Rattle.iddqd_bi.proofs.CallerLemmas.Named.{only_written}
use Rattle.caller_bi.proofs.writing.write1_again.Goals as goal

-- the item that is borrowed, and borrowed again, is the one that the key names
pub returns-in-Some-clause-present : goal.returns-in-Some-clause-present
returns-in-Some-clause-present g c = λ x is.
    (let one = c.in-Some.ensures in
    let again = c.reborrow.result.now in
    let same = c.reborrow.ensures.unchanged in
    let write : g.row.T.Denot → g.row.T.Denot = λ y. g.T.BiHashItemMut.put y c.args.d in
    let ranks = ranks g.T.BiHashItem g.T.K1.PartialEq.eq g.T.K2.PartialEq.eq in
    rw (c.map-1.given.1 (sym (ap (λ r. r.map.ghost_name) same ∙ one.same_map)), c.drop-item.ensures)
    (only_written ranks write c.args.map.now (ref_map again) (bag (ref_map (ref_with again write))) (ref_item again) x _
    (ap (λ r. r.map.now) same ∙ one.unchanged) (ap (λ r. option_to_list (ref_item r)) same ∙ one.found) is (c.data_mut.ensures.swaps c.args.d)))
