use Rattle.std.proofs.Common.{arith}
use Rattle.std.proofs.lemmas.Result.{IfOk-weaker, IfErr-weaker}
use Rattle.iddqd_order.specs.Row.{line}
use Rattle.iddqd_sorted.proofs.Listed.{long}
use Rattle.iddqd_sorted.proofs.Searching.{item_searchable, item_found, item_gap, same_slots}
use Rattle.iddqd_sorted.proofs.Sorting.{total}
use Rattle.iddqd_sorted.proofs.map.Sorted.place_of.Goals as goal

pub search_last_first-requires-clause-ordered : goal.search_last_first-requires-clause-ordered
search_last_first-requires-clause-ordered g c =
    item_searchable g.M.Item.Sortable.sort_key g.met.M.Item.SortKey.Ord.total g.M.SlotMap.first_key g.met.M.FirstKey.Ord.total (g.M.SlotMap.shown c.self.inside.map).slots (line c.self.inside.order.blocks) c.self.invariant c.args.item.now _ c.sort_key.ensures _ c.first_key.ensures _ (same_slots _ _ _ c.slots.ensures)

pub returns-clause-found : goal.returns-clause-found
returns-clause-found g c =
    rw (← c.self.view_is) (IfOk-weaker c.search_last_first.result _ _ (λ p found.
    item_found g.M.Item.Sortable.sort_key g.met.M.Item.SortKey.Ord.total g.M.SlotMap.first_key g.met.M.FirstKey.Ord.total (g.M.SlotMap.shown c.self.inside.map).slots (line c.self.inside.order.blocks) c.self.invariant c.args.item.now _ c.sort_key.ensures _ c.first_key.ensures _ (same_slots _ _ _ c.slots.ensures) _ found) c.search_last_first.ensures.found)

pub returns-clause-gap : goal.returns-clause-gap
returns-clause-gap g c =
    rw (← c.self.view_is) (IfErr-weaker c.search_last_first.result _ _ (λ p gap.
    item_gap g.M.Item.Sortable.sort_key g.met.M.Item.SortKey.Ord.total g.M.SlotMap.first_key g.met.M.FirstKey.Ord.total (g.M.SlotMap.shown c.self.inside.map).slots (line c.self.inside.order.blocks) c.self.invariant c.args.item.now _ c.sort_key.ensures _ c.first_key.ensures _ (same_slots _ _ _ c.slots.ensures) _ gap) c.search_last_first.ensures.gap)

pub returns-clause-asked : goal.returns-clause-asked
returns-clause-asked g c = λ r few.
    (let as_many = long (total g.M.Item.Sortable.sort_key g.met.M.Item.SortKey.Ord.total g.M.SlotMap.first_key g.met.M.FirstKey.Ord.total) g.M.Item.Sortable.sort_key (g.M.SlotMap.shown c.self.inside.map).slots (line c.self.inside.order.blocks) c.self.invariant in
    let few_items = rw (← c.self.view_is) at few in
    omega (arith, c.search_last_first.ensures.asked r (omega (arith, as_many, few_items))))
