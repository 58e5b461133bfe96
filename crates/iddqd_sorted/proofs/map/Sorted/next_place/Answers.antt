use Rattle.iddqd_order.specs.Row.{line}
use Rattle.iddqd_sorted.proofs.Listed.{long}
use Rattle.iddqd_sorted.proofs.Sorting.{total}
use Rattle.iddqd_sorted.proofs.map.Sorted.next_place.Goals as goal

pub returns-clause-counted : goal.returns-clause-counted
returns-clause-counted g c = rw (← c.self.view_is) (long (total g.M.Item.Sortable.sort_key g.met.M.Item.SortKey.Ord.total g.M.SlotMap.first_key g.met.M.FirstKey.Ord.total) g.M.Item.Sortable.sort_key (g.M.SlotMap.shown c.self.inside.map).slots (line c.self.inside.order.blocks) c.self.invariant)
