use Rattle.std.proofs.Common.{true, arith}
use Rattle.iddqd_order.specs.Row.{line}
use Rattle.iddqd_sorted.proofs.Listed.{long}
use Rattle.iddqd_order.proofs.StartLemmas.{never_found}
use Rattle.iddqd_sorted.proofs.Searching.{side_searchable, side_start}
use Rattle.iddqd_sorted.proofs.Sorting.{total}
use Rattle.iddqd_sorted.proofs.map.Sorted.upper_bound.Goals as goal

pub search-requires-clause-ordered : goal.search-requires-clause-ordered
search-requires-clause-ordered g c = side_searchable g.M.Item.Sortable.sort_key g.met.M.Item.SortKey.Ord.total g.M.SlotMap.first_key g.met.M.FirstKey.Ord.total (g.M.SlotMap.shown c.self.inside.map).slots (line c.self.inside.order.blocks) c.self.invariant true c.args.sort_key.now

pub unreachable-requires : goal.unreachable-requires
unreachable-requires g c = never_found (λ e. g.M.Item.SortKey.Ord.cmp e.sort_key c.args.sort_key.now) true (line c.self.inside.order.blocks) _ c.in-Ok.ensures.found

pub returns-clause-starts : goal.returns-clause-starts
returns-clause-starts g c = rw (← c.self.view_is) (side_start g.M.Item.Sortable.sort_key g.met.M.Item.SortKey.Ord.total g.M.SlotMap.first_key g.met.M.FirstKey.Ord.total (g.M.SlotMap.shown c.self.inside.map).slots (line c.self.inside.order.blocks) c.self.invariant true c.args.sort_key.now _ c.in-Err.ensures.gap)

pub returns-clause-asked : goal.returns-clause-asked
returns-clause-asked g c = λ r few.
    (let as_many = long (total g.M.Item.Sortable.sort_key g.met.M.Item.SortKey.Ord.total g.M.SlotMap.first_key g.met.M.FirstKey.Ord.total) g.M.Item.Sortable.sort_key (g.M.SlotMap.shown c.self.inside.map).slots (line c.self.inside.order.blocks) c.self.invariant in
    let few_items = rw (← c.self.view_is) at few in
    omega (arith, c.search.ensures.asked r (omega (arith, as_many, few_items))))
