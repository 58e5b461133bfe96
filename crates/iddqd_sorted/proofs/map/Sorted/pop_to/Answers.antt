use Rattle.std.proofs.Common.{◌≡◌, ◌∙◌, Some, None, ap, sym, rules}
use Rattle.std.specs.Prelude.{slice_get, filter}
use Rattle.std.specs.Ordering.{is_le}
use Rattle.iddqd_sorted.specs.Items.{items}
use Rattle.iddqd_sorted.proofs.Sorting.{none_due, nothing_first}
use Rattle.iddqd_sorted.proofs.map.Sorted.pop_to.Goals as goal

pub returns-in-Greater-clause-none : goal.returns-in-Greater-clause-none
returns-in-Greater-clause-none g c =
    let all = items c.args.self.now in
    let x = c.in-Some.item.now in
    let first : slice_get all 0 ≡ Some x = search (rules, c.first.ensures.item) in
    let compared = c.cmp.ensures ∙ ap (λ k. g.M.Item.SortKey.Ord.cmp k c.args.bound.now) c.sort_key.ensures in
    none_due g.M.Item.Sortable.sort_key g.met.M.Item.SortKey.Ord.total g.M.SlotMap.first_key g.met.M.FirstKey.Ord.total c.args.bound.now all x first c.first.ensures.ascending (ap is_le (sym compared ∙ c.in-Greater.is))

pub returns-in-None-clause-none : goal.returns-in-None-clause-none
returns-in-None-clause-none g c =
    let all = items c.args.self.now in
    let none : slice_get all 0 ≡ None = search (rules, c.first.ensures.item) in
    ap (filter (λ y. is_le (g.M.Item.SortKey.Ord.cmp (g.M.Item.Sortable.sort_key y) c.args.bound.now))) (nothing_first all none)
