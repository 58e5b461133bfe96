use Rattle.std.proofs.Common.{arith}
use Rattle.iddqd_order.specs.Row.{line}
use Rattle.iddqd_sorted.proofs.Listed.{long}
use Rattle.iddqd_sorted.proofs.Sorting.{total}
use Rattle.iddqd_sorted.proofs.map.Sorted.lower_order.Goals as goal

pub lower_capacity-requires-clause-fits : goal.lower_capacity-requires-clause-fits
lower_capacity-requires-clause-fits g c =
    let entries = long (total g.M.Item.Sortable.sort_key g.met.M.Item.SortKey.Ord.total g.M.SlotMap.first_key g.met.M.FirstKey.Ord.total) g.M.Item.Sortable.sort_key (g.M.SlotMap.shown c.self.inside.map).slots (line c.self.inside.order.blocks) c.self.invariant in
    let most = rw (← c.self.view_is) at c.requires in
    omega (arith, entries, most)
