use Rattle.std.proofs.Common.{◌≡◌, ◌∙◌, Some, None, false, ap, sym, refl, rules}
use Rattle.std.specs.Prelude.{slice_get, filter}
use Rattle.std.specs.Ordering.{is_lt}
use Rattle.std.specs.declared.cmp.Ordering.{Ordering}
use Rattle.std.specs.declared.cmp.Ordering.TheVariants.{Less, Equal, Greater}
use Rattle.iddqd_sorted.specs.Items.{items}
use Rattle.iddqd_sorted.proofs.Sorting.{none_lower, nothing_first}
use Rattle.iddqd_sorted.proofs.map.Sorted.pop_before.Goals as goal

not_less : (o : Ordering) → (o ≡ Less → ⊥) → is_lt o ≡ false
not_less Less other = absurd (other refl)
not_less Equal other = refl
not_less Greater other = refl

pub returns-in_default-clause-none : goal.returns-in_default-clause-none
returns-in_default-clause-none g c =
    let all = items c.args.self.now in
    let x = c.in-Some.item.now in
    let first : slice_get all 0 ≡ Some x = search (rules, c.first.ensures.item) in
    let compared = c.cmp.ensures ∙ ap (λ k. g.M.Item.SortKey.Ord.cmp k c.args.bound.now) c.sort_key.ensures in
    none_lower g.M.Item.Sortable.sort_key g.met.M.Item.SortKey.Ord.total g.M.SlotMap.first_key g.met.M.FirstKey.Ord.total c.args.bound.now all x first c.first.ensures.ascending
    (ap is_lt (sym compared) ∙ not_less c.cmp.result c.in_default.not-Less)

pub returns-in-None-clause-none : goal.returns-in-None-clause-none
returns-in-None-clause-none g c =
    let all = items c.args.self.now in
    let none : slice_get all 0 ≡ None = search (rules, c.first.ensures.item) in
    ap (filter (λ y. is_lt (g.M.Item.SortKey.Ord.cmp (g.M.Item.Sortable.sort_key y) c.args.bound.now))) (nothing_first all none)
