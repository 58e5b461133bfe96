use Rattle.std.proofs.Common.{◌≡◌, ◌+◌, ap, sym, length, arith}
use Rattle.std.proofs.lemmas.List.Sorted.{length_permutation}
use Rattle.std.proofs.lemmas.List.Edits.{length-insert}
use Rattle.iddqd_store.specs.Slots.{live_count}
use Rattle.iddqd_store.proofs.SlotLemmas.Contents.{length-contents}
use Rattle.iddqd_order.specs.Row.{line, position}
use Rattle.iddqd_order.proofs.PlaceLemmas.{position-within}
use Rattle.iddqd_sorted.specs.declared.entry.Entry.{Entry}
use Rattle.iddqd_sorted.specs.Entries.{items_in}
use Rattle.iddqd_sorted.proofs.Listed.{long, counted-items, items-inserted, IsListed-inserted}
use Rattle.iddqd_sorted.proofs.Sorting.{total}
use Rattle.iddqd_sorted.proofs.map.Sorted.insert_into.Goals as goal

pub insert_into-slot-requires-clause-room : goal.insert_into-slot-requires-clause-room
insert_into-slot-requires-clause-room g c =
    let counted = counted-items (total g.M.Item.Sortable.sort_key g.met.M.Item.SortKey.Ord.total g.M.SlotMap.first_key g.met.M.FirstKey.Ord.total) g.M.Item.Sortable.sort_key (g.M.SlotMap.shown c.self.inside.map).slots (line c.self.inside.order.blocks) c.self.invariant in
    let room = rw (← c.self.view_is) at c.requires.room in
    omega (arith, counted, room)

pub insert-requires-clause-room : goal.insert-requires-clause-room
insert-requires-clause-room g c =
    let entries = long (total g.M.Item.Sortable.sort_key g.met.M.Item.SortKey.Ord.total g.M.SlotMap.first_key g.met.M.FirstKey.Ord.total) g.M.Item.Sortable.sort_key (g.M.SlotMap.shown c.self.inside.map).slots (line c.self.inside.order.blocks) c.self.invariant in
    let room = rw (← c.self.view_is) at c.requires.room in
    omega (arith, entries, room)

pub invariant_of-self : goal.invariant_of-self
invariant_of-self g c =
    let slots = (g.M.SlotMap.shown c.self.inside.map).slots in
    let put = c.insert_into-slot.ensures in
    let new = (g.M.SlotMap.shown c.insert_into-slot.new.self).slots in
    let gap = rw (← c.self.view_is) at c.requires.gap.1 in
    let e : Entry g.row.M-Item-SortKey.Denot = record { sort_key = c.sort_key-sort_key.result; slot = c.insert_into-slot.result } in
    let more : live_count new ≡ live_count slots + 1 = omega (arith, length_permutation _ _ put.puts_at.items, length-contents slots, length-contents new) in
    rw (c.insert.ensures.entries) (IsListed-inserted (total g.M.Item.Sortable.sort_key g.met.M.Item.SortKey.Ord.total g.M.SlotMap.first_key g.met.M.FirstKey.Ord.total) g.M.Item.Sortable.sort_key (g.M.SlotMap.shown c.self.inside.map).slots (line c.self.inside.order.blocks) c.self.invariant new e (position c.self.inside.order.blocks c.args.place) c.args.item put.was_free put.updates more (λ q. ap (λ z. g.M.Item.SortKey.Ord.cmp z q) (sym c.sort_key-sort_key.ensures)) gap)

pub returns-clause-inserted : goal.returns-clause-inserted
returns-clause-inserted g c =
    let put = c.insert_into-slot.ensures in
    let place = rw (← c.self.view_is) at c.requires.gap.0 in
    let e : Entry g.row.M-Item-SortKey.Denot = record { sort_key = c.sort_key-sort_key.result; slot = c.insert_into-slot.result } in
    let kept = items-inserted (total g.M.Item.Sortable.sort_key g.met.M.Item.SortKey.Ord.total g.M.SlotMap.first_key g.met.M.FirstKey.Ord.total) g.M.Item.Sortable.sort_key (g.M.SlotMap.shown c.self.inside.map).slots (line c.self.inside.order.blocks) c.self.invariant (g.M.SlotMap.shown c.insert_into-slot.new.self).slots e (position c.self.inside.order.blocks c.args.place) c.args.item put.was_free put.updates (position-within c.self.inside.order.blocks c.args.place place) in
    rw (c.insert.ensures.entries, ← c.self.view_is) kept

pub returns-clause-fits : goal.returns-clause-fits
returns-clause-fits g c =
    let put = c.insert_into-slot.ensures in
    let xs = items_in (g.M.SlotMap.shown c.self.inside.map).slots (line c.self.inside.order.blocks) in
    let entries = long (total g.M.Item.Sortable.sort_key g.met.M.Item.SortKey.Ord.total g.M.SlotMap.first_key g.met.M.FirstKey.Ord.total) g.M.Item.Sortable.sort_key (g.M.SlotMap.shown c.self.inside.map).slots (line c.self.inside.order.blocks) c.self.invariant in
    let counted = counted-items (total g.M.Item.Sortable.sort_key g.met.M.Item.SortKey.Ord.total g.M.SlotMap.first_key g.met.M.FirstKey.Ord.total) g.M.Item.Sortable.sort_key (g.M.SlotMap.shown c.self.inside.map).slots (line c.self.inside.order.blocks) c.self.invariant in
    let place = rw (← c.self.view_is) at c.requires.gap.0 in
    let room = rw (← c.self.view_is) at c.requires.room in
    let i = position c.self.inside.order.blocks c.args.place in
    let le = position-within c.self.inside.order.blocks c.args.place place in
    let e : Entry g.row.M-Item-SortKey.Denot = record { sort_key = c.sort_key-sort_key.result; slot = c.insert_into-slot.result } in
    let kept = items-inserted (total g.M.Item.Sortable.sort_key g.met.M.Item.SortKey.Ord.total g.M.SlotMap.first_key g.met.M.FirstKey.Ord.total) g.M.Item.Sortable.sort_key (g.M.SlotMap.shown c.self.inside.map).slots (line c.self.inside.order.blocks) c.self.invariant (g.M.SlotMap.shown c.insert_into-slot.new.self).slots e i c.args.item put.was_free put.updates le in
    rw (c.insert.ensures.entries) (omega (arith, ap length kept, length-insert xs i c.args.item (omega (arith, entries, le)), entries, counted, room, put.puts_at.same_room, c.insert.ensures.capacity))

pub returns-clause-probed : goal.returns-clause-probed
returns-clause-probed g c = rw (← c.self.view_is) c.insert_into-slot.ensures.costs
