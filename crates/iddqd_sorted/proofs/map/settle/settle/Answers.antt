use Rattle.std.proofs.Common.{◌∙◌, sym, ap, arith}
use Rattle.std.specs.Prelude.{slice_set, slice_index_or, None}
use Rattle.std.specs.Ordering.{is_eq}
use Rattle.iddqd_store.specs.Bag.{do_conflict}
use Rattle.iddqd_store.specs.Slots.{contents}
use Rattle.iddqd_order.specs.Row.{line, position}
use Rattle.iddqd_sorted.specs.Entries.{items_in}
use Rattle.iddqd_sorted.proofs.Finding.{none-permutation, passes_somewhere}
use Rattle.iddqd_sorted.proofs.Listed.{IsPermutation-listed}
use Rattle.iddqd_sorted.proofs.Settling.{live_seen, settled, other_searchable, other_found, other_gap}
use Rattle.iddqd_sorted.proofs.Sorting.{total, same_key}
use Rattle.iddqd_sorted.proofs.map.settle.settle.Goals as goal

pub search_last_first-requires-clause-asks : goal.search_last_first-requires-clause-asks
search_last_first-requires-clause-asks g c =
    let all = total g.M.Item.Sortable.sort_key g.met.M.Item.SortKey.Ord.total g.M.SlotMap.first_key g.met.M.FirstKey.Ord.total in
    rw c.slots-2.ensures (live_seen all g.M.Item.Sortable.sort_key (g.M.SlotMap.shown c.args.map.now).slots c.args.slot c.item-item.result.now (rw c.slots.ensures at c.item-item.ensures) (line c.args.order.now.blocks) c.requires.others)

pub search_last_first-requires-clause-ordered : goal.search_last_first-requires-clause-ordered
search_last_first-requires-clause-ordered g c =
    other_searchable g.M.Item.Sortable.sort_key g.met.M.Item.SortKey.Ord.total g.M.SlotMap.first_key g.met.M.FirstKey.Ord.total (g.M.SlotMap.shown c.args.map.now).slots c.args.slot c.item-item.result.now (rw c.slots.ensures at c.item-item.ensures) (line c.args.order.now.blocks) c.requires.others _ c.slots-2.ensures _ c.sort_key-sort_key.ensures _ c.first_key.ensures

-- the item at the place that was found would conflict
pub unreachable-requires : goal.unreachable-requires
unreachable-requires g c =
    let all = total g.M.Item.Sortable.sort_key g.met.M.Item.SortKey.Ord.total g.M.SlotMap.first_key g.met.M.FirstKey.Ord.total in
    let slots = (g.M.SlotMap.shown c.args.map.now).slots in
    let es = line c.args.order.now.blocks in
    let x = c.item-item.result.now in
    let there = rw c.slots.ensures at c.item-item.ensures in
    let bare = slice_set slots c.args.slot None in
    let xs = items_in bare es in
    let p = position c.args.order.now.blocks c.in_default.field-0 in
    let split = other_found g.M.Item.Sortable.sort_key g.met.M.Item.SortKey.Ord.total g.M.SlotMap.first_key g.met.M.FirstKey.Ord.total slots c.args.slot x there es c.requires.others _ c.slots-2.ensures _ c.sort_key-sort_key.ensures _ c.first_key.ensures p c.in_default.ensures.found in
    let y = slice_index_or xs p x in
    let level = same_key g.M.Item.Sortable.sort_key g.met.M.Item.SortKey.Ord.total g.M.SlotMap.first_key g.met.M.FirstKey.Ord.total y x (split.equal p x (omega arith) (omega arith)) in
    let alike = g.met.M.FirstKey.Ord.matches_eq (g.M.SlotMap.first_key y) (g.M.SlotMap.first_key x) ∙ ap is_eq level in
    let back = g.met.M.FirstKey.Eq.laws.symm (g.M.SlotMap.first_key x) (g.M.SlotMap.first_key y) ∙ alike in
    let none = none-permutation (do_conflict g.M.SlotMap.ranks x) (contents bare) xs (IsPermutation-listed all g.M.Item.Sortable.sort_key bare es c.requires.others) (c.requires.free x there) in
    passes_somewhere (do_conflict g.M.SlotMap.ranks x) xs x p none (omega (arith, split.in_range)) (g.met.M.SlotMap.same_first x y back)

pub returns-clause-settles : goal.returns-clause-settles
returns-clause-settles g c =
    let all = total g.M.Item.Sortable.sort_key g.met.M.Item.SortKey.Ord.total g.M.SlotMap.first_key g.met.M.FirstKey.Ord.total in
    let slots = (g.M.SlotMap.shown c.args.map.now).slots in
    let es = line c.args.order.now.blocks in
    let x = c.item-item.result.now in
    let there = rw c.slots.ensures at c.item-item.ensures in
    let p = position c.args.order.now.blocks c.in-Err.place in
    let gap = other_gap g.M.Item.Sortable.sort_key g.met.M.Item.SortKey.Ord.total g.M.SlotMap.first_key g.met.M.FirstKey.Ord.total slots c.args.slot x there es c.requires.others _ c.slots-2.ensures _ c.sort_key-sort_key.ensures _ c.first_key.ensures p c.in-Err.ensures.gap in
    rw c.insert_within.ensures.entries (settled all g.M.Item.Sortable.sort_key slots c.args.slot x there es c.requires.others c.sort_key-sort_key.result (sym c.sort_key-sort_key.ensures) p gap)
