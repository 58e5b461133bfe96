use Rattle.std.proofs.Common.{sym, ◌∙◌, ◌&&◌, length, ◌<◌, rules, arith}
use Rattle.std.specs.Ordering.{is_ge, is_le, is_eq, is_gt}
use Rattle.std.specs.Prelude.{not}
use Rattle.iddqd_store.specs.Slots.{IsLive}
use Rattle.iddqd_order.specs.Row.{line}
use Rattle.iddqd_sorted.specs.Entries.{item_in}
use Rattle.iddqd_sorted.proofs.Entries.{All-range, items-range}
use Rattle.iddqd_order.proofs.FilterLemmas.{filter-between}
use Rattle.iddqd_sorted.proofs.Sorting.{IsStartOf-same, not_le, filter-same, both_eq}
use Rattle.iddqd_order.proofs.WalkLemmas.{is_walked}
use Rattle.iddqd_sorted.proofs.map.Sorted.group_counted.Goals as goal

pub over-requires : goal.over-requires
over-requires g c = rw (c.slots.ensures, c.range.ensures) (All-range (λ e. IsLive (g.M.SlotMap.shown c.self.inside.map).slots e.slot) (line c.self.inside.order.blocks) _ _ c.self.invariant.live)

pub returns-clause-gives : goal.returns-clause-gives
returns-clause-gives g c =
    let at = λ (x : g.row.M-Item.Denot). g.M.Item.SortKey.Ord.cmp (g.M.Item.Sortable.sort_key x) c.args.sort_key.now in
    let from = rw (← c.self.view_is) at c.lower_bound-from.ensures.starts in
    let to = IsStartOf-same (λ x. is_gt (at x)) (λ x. not (is_le (at x))) (λ x. not_le (at x)) _ _ (rw (← c.self.view_is) at c.upper_bound-to.ensures.starts) in
    rw (← c.self.view_is) ((rw (c.slots.ensures, c.range.ensures) at c.over.ensures.gives)
    ∙ items-range (item_in (g.M.SlotMap.shown c.self.inside.map).slots) (line c.self.inside.order.blocks) _ _ c.self.invariant.live
    ∙ sym (filter-between (λ x. is_ge (at x)) (λ x. is_le (at x)) _ _ _ from to)
    ∙ filter-same (λ x. is_ge (at x) && is_le (at x)) (λ x. is_eq (at x)) (λ x. both_eq (at x)) _)

pub returns-clause-walked : goal.returns-clause-walked
returns-clause-walked g c = is_walked

pub returns-clause-countable : goal.returns-clause-countable
returns-clause-countable g c =
    let t : length c.range.result < 18446744073709551616 = search rules in
    omega (arith, t, c.over.ensures.as_many)
