use Rattle.std.proofs.Common.{◌≡◌, ◌∙◌, Some, sym, ap}
use Rattle.iddqd_order.specs.Row.{line, position}
use Rattle.iddqd_order.proofs.PlaceLemmas.{position-below}
use Rattle.iddqd_sorted.proofs.Changed.{live_changed, changed_searchable, changed_gap, changed_slot}
use Rattle.iddqd_sorted.proofs.map.settle.place_before_change.Goals as goal

pub search-requires-clause-asks : goal.search-requires-clause-asks
search-requires-clause-asks g c =
    live_changed g.M.Item.Sortable.sort_key g.met.M.Item.SortKey.Ord.total g.M.SlotMap.first_key g.met.M.FirstKey.Ord.total (g.M.SlotMap.shown c.args.map.now).slots c.args.slot c.args.before (line c.args.order.now.blocks) c.requires.lists _ c.slots-2.ensures

pub search-requires-clause-ordered : goal.search-requires-clause-ordered
search-requires-clause-ordered g c =
    let there = rw c.slots.ensures at c.item-item.ensures in
    let one : Some c.item-item.result.now ≡ Some c.requires.lists.now = sym there ∙ c.requires.lists.updates.changed in
    let same : c.item-item.result.now ≡ c.requires.lists.now = cc one in
    changed_searchable g.M.Item.Sortable.sort_key g.met.M.Item.SortKey.Ord.total g.M.SlotMap.first_key g.met.M.FirstKey.Ord.total (g.M.SlotMap.shown c.args.map.now).slots c.args.slot c.args.before (line c.args.order.now.blocks) c.requires.lists _ c.slots-2.ensures _ (c.first_key.ensures ∙ ap g.M.SlotMap.first_key same)

pub unreachable-requires : goal.unreachable-requires
unreachable-requires g c =
    let there = rw c.slots.ensures at c.item-item.ensures in
    let one : Some c.item-item.result.now ≡ Some c.requires.lists.now = sym there ∙ c.requires.lists.updates.changed in
    let same : c.item-item.result.now ≡ c.requires.lists.now = cc one in
    changed_gap g.M.Item.Sortable.sort_key g.met.M.Item.SortKey.Ord.total g.M.SlotMap.first_key g.met.M.FirstKey.Ord.total (g.M.SlotMap.shown c.args.map.now).slots c.args.slot c.args.before (line c.args.order.now.blocks) c.requires.lists _ c.slots-2.ensures _ (c.first_key.ensures ∙ ap g.M.SlotMap.first_key same) _ c.in-Err.ensures.gap

pub returns-clause-slot : goal.returns-clause-slot
returns-clause-slot g c = λ d.
    (let there = rw c.slots.ensures at c.item-item.ensures in
    let one : Some c.item-item.result.now ≡ Some c.requires.lists.now = sym there ∙ c.requires.lists.updates.changed in
    let same : c.item-item.result.now ≡ c.requires.lists.now = cc one in
    changed_slot g.M.Item.Sortable.sort_key g.met.M.Item.SortKey.Ord.total g.M.SlotMap.first_key g.met.M.FirstKey.Ord.total (g.M.SlotMap.shown c.args.map.now).slots c.args.slot c.args.before (line c.args.order.now.blocks) c.requires.lists _ c.slots-2.ensures _ (c.first_key.ensures ∙ ap g.M.SlotMap.first_key same)
    (position c.args.order.now.blocks c.in-Ok.place) d (position-below c.args.order.now.blocks c.in-Ok.place c.in-Ok.ensures.entry) c.in-Ok.ensures.found)
