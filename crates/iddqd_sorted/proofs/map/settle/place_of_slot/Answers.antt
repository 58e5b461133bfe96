use Rattle.iddqd_order.specs.Row.{line, position}
use Rattle.iddqd_order.proofs.PlaceLemmas.{position-below}
use Rattle.iddqd_sorted.specs.Entries.{items_in}
use Rattle.iddqd_sorted.proofs.Listed.{Contains-listed}
use Rattle.iddqd_sorted.proofs.Searching.{item_searchable, item_found, item_gap, same_slots}
use Rattle.iddqd_sorted.proofs.Settling.{slot_at}
use Rattle.iddqd_sorted.proofs.Sorting.{total, no_gap, found_there}
use Rattle.iddqd_sorted.proofs.map.settle.place_of_slot.Goals as goal

pub search-requires-clause-ordered : goal.search-requires-clause-ordered
search-requires-clause-ordered g c =
    item_searchable g.M.Item.Sortable.sort_key g.met.M.Item.SortKey.Ord.total g.M.SlotMap.first_key g.met.M.FirstKey.Ord.total (g.M.SlotMap.shown c.args.map.now).slots (line c.args.order.now.blocks) c.requires.listed c.item-item.result.now _ c.sort_key.ensures _ c.first_key.ensures _ (same_slots _ _ _ c.slots-2.ensures)

pub unreachable-requires : goal.unreachable-requires
unreachable-requires g c =
    let all = total g.M.Item.Sortable.sort_key g.met.M.Item.SortKey.Ord.total g.M.SlotMap.first_key g.met.M.FirstKey.Ord.total in
    let slots = (g.M.SlotMap.shown c.args.map.now).slots in
    let es = line c.args.order.now.blocks in
    let x = c.item-item.result.now in
    let there = rw c.slots.ensures at c.item-item.ensures in
    no_gap all (items_in slots es) x (Contains-listed all g.M.Item.Sortable.sort_key slots es c.requires.listed c.args.slot x there) _
    (item_gap g.M.Item.Sortable.sort_key g.met.M.Item.SortKey.Ord.total g.M.SlotMap.first_key g.met.M.FirstKey.Ord.total slots es c.requires.listed x _ c.sort_key.ensures _ c.first_key.ensures _ (same_slots _ _ _ c.slots-2.ensures) _ c.in-Err.ensures.gap)

pub returns-clause-slot : goal.returns-clause-slot
returns-clause-slot g c = λ d.
    (let all = total g.M.Item.Sortable.sort_key g.met.M.Item.SortKey.Ord.total g.M.SlotMap.first_key g.met.M.FirstKey.Ord.total in
    let slots = (g.M.SlotMap.shown c.args.map.now).slots in
    let es = line c.args.order.now.blocks in
    let x = c.item-item.result.now in
    let there = rw c.slots.ensures at c.item-item.ensures in
    let p = position c.args.order.now.blocks c.in-Ok.place in
    let found = item_found g.M.Item.Sortable.sort_key g.met.M.Item.SortKey.Ord.total g.M.SlotMap.first_key g.met.M.FirstKey.Ord.total slots es c.requires.listed x _ c.sort_key.ensures _ c.first_key.ensures _ (same_slots _ _ _ c.slots-2.ensures) p c.in-Ok.ensures.found in
    let here = found_there all (items_in slots es) x (Contains-listed all g.M.Item.Sortable.sort_key slots es c.requires.listed c.args.slot x there) p found x in
    slot_at all g.M.Item.Sortable.sort_key slots es c.requires.listed c.args.slot x there p d (position-below c.args.order.now.blocks c.in-Ok.place c.in-Ok.ensures.entry) here)
