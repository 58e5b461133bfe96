use Rattle.std.proofs.Common.{arith}
use Rattle.iddqd_order.specs.Row.{line}
use Rattle.iddqd_order.proofs.FilterLemmas.{err_for_all}
use Rattle.iddqd_sorted.proofs.Listed.{long, counted-items}
use Rattle.iddqd_sorted.proofs.Sorting.{total}
use Rattle.iddqd_sorted.proofs.map.Sorted.grow_both.Goals as goal

pub returns-in_err-try_reserve-clause-reason : goal.returns-in_err-try_reserve-clause-reason
returns-in_err-try_reserve-clause-reason g c =
    let entries = long (total g.M.Item.Sortable.sort_key g.met.M.Item.SortKey.Ord.total g.M.SlotMap.first_key g.met.M.FirstKey.Ord.total) g.M.Item.Sortable.sort_key (g.M.SlotMap.shown c.self.inside.map).slots (line c.self.inside.order.blocks) c.self.invariant in
    rw (← c.self.view_is) (err_for_all c.from_residual.result (omega (arith, entries, c.in_err-try_reserve.ensures.reason)))

pub returns-in-Err-clause-reason : goal.returns-in-Err-clause-reason
returns-in-Err-clause-reason g c =
    let counted = counted-items (total g.M.Item.Sortable.sort_key g.met.M.Item.SortKey.Ord.total g.M.SlotMap.first_key g.met.M.FirstKey.Ord.total) g.M.Item.Sortable.sort_key (g.M.SlotMap.shown c.self.inside.map).slots (line c.self.inside.order.blocks) c.self.invariant in
    rw (← c.self.view_is) (omega (arith, counted, c.in-Err.ensures.room.reason))

pub returns-in-Ok-clause-room : goal.returns-in-Ok-clause-room
returns-in-Ok-clause-room g c =
    let entries = long (total g.M.Item.Sortable.sort_key g.met.M.Item.SortKey.Ord.total g.M.SlotMap.first_key g.met.M.FirstKey.Ord.total) g.M.Item.Sortable.sort_key (g.M.SlotMap.shown c.self.inside.map).slots (line c.self.inside.order.blocks) c.self.invariant in
    let counted = counted-items (total g.M.Item.Sortable.sort_key g.met.M.Item.SortKey.Ord.total g.M.SlotMap.first_key g.met.M.FirstKey.Ord.total) g.M.Item.Sortable.sort_key (g.M.SlotMap.shown c.self.inside.map).slots (line c.self.inside.order.blocks) c.self.invariant in
    rw (← c.self.view_is) (omega (arith, entries, counted, c.in-Ok.ensures.room.room, c.in_ok-try_reserve.ensures.room))

pub returns-in-Ok-clause-past : goal.returns-in-Ok-clause-past
returns-in-Ok-clause-past g c =
    let counted = counted-items (total g.M.Item.Sortable.sort_key g.met.M.Item.SortKey.Ord.total g.M.SlotMap.first_key g.met.M.FirstKey.Ord.total) g.M.Item.Sortable.sort_key (g.M.SlotMap.shown c.self.inside.map).slots (line c.self.inside.order.blocks) c.self.invariant in
    rw (← c.self.view_is) (λ much. c.in-Ok.ensures.room.past (omega (arith, counted, much)))

pub returns-in-Ok-clause-same_room : goal.returns-in-Ok-clause-same_room
returns-in-Ok-clause-same_room g c =
    let entries = long (total g.M.Item.Sortable.sort_key g.met.M.Item.SortKey.Ord.total g.M.SlotMap.first_key g.met.M.FirstKey.Ord.total) g.M.Item.Sortable.sort_key (g.M.SlotMap.shown c.self.inside.map).slots (line c.self.inside.order.blocks) c.self.invariant in
    let counted = counted-items (total g.M.Item.Sortable.sort_key g.met.M.Item.SortKey.Ord.total g.M.SlotMap.first_key g.met.M.FirstKey.Ord.total) g.M.Item.Sortable.sort_key (g.M.SlotMap.shown c.self.inside.map).slots (line c.self.inside.order.blocks) c.self.invariant in
    rw (← c.self.view_is) (λ fits. omega (arith, c.in-Ok.ensures.room.same_room (omega (arith, entries, counted, fits)), c.in_ok-try_reserve.ensures.same (omega (arith, entries, fits))))
