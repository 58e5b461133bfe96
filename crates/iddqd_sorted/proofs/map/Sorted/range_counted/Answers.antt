use Rattle.std.proofs.Common.{sym, ◌∙◌, length, ◌<◌, rules, arith}
use Rattle.iddqd_store.specs.Slots.{IsLive}
use Rattle.iddqd_order.specs.Row.{line}
use Rattle.iddqd_sorted.specs.Entries.{item_in}
use Rattle.iddqd_sorted.proofs.Entries.{All-range, items-range}
use Rattle.iddqd_order.proofs.FilterLemmas.{filter-between}
use Rattle.iddqd_order.proofs.WalkLemmas.{is_walked}
use Rattle.iddqd_sorted.proofs.map.Sorted.range_counted.Goals as goal

pub over-requires : goal.over-requires
over-requires g c = rw (c.slots.ensures, c.range.ensures) (All-range (λ e. IsLive (g.M.SlotMap.shown c.self.inside.map).slots e.slot) (line c.self.inside.order.blocks) _ _ c.self.invariant.live)

pub returns-clause-gives : goal.returns-clause-gives
returns-clause-gives g c = λ has.
    (let from = rw (c.start_bound.ensures has, ← c.self.view_is) at c.range_start-from.ensures.starts in
    let to = rw (c.end_bound.ensures has, ← c.self.view_is) at c.range_end-to.ensures.starts in
    rw (← c.self.view_is) ((rw (c.slots.ensures, c.range.ensures) at c.over.ensures.gives)
    ∙ items-range (item_in (g.M.SlotMap.shown c.self.inside.map).slots) (line c.self.inside.order.blocks) _ _ c.self.invariant.live
    ∙ sym (filter-between _ _ _ _ _ from to)))

pub returns-clause-walked : goal.returns-clause-walked
returns-clause-walked g c = is_walked

pub returns-clause-countable : goal.returns-clause-countable
returns-clause-countable g c =
    let t : length c.range.result < 18446744073709551616 = search rules in
    omega (arith, t, c.over.ensures.as_many)
