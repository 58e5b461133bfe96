use Rattle.iddqd_order.specs.Row.{line}
use Rattle.iddqd_sorted.proofs.Listed.{IsPermutation-listed}
use Rattle.iddqd_sorted.proofs.Sorting.{total}
use Rattle.iddqd_sorted.proofs.map.Sorted.inside.Goals as goal

pub returns-clause-items : goal.returns-clause-items
returns-clause-items g c = rw (← c.self.view_is) (IsPermutation-listed (total g.M.Item.Sortable.sort_key g.met.M.Item.SortKey.Ord.total g.M.SlotMap.first_key g.met.M.FirstKey.Ord.total) g.M.Item.Sortable.sort_key (g.M.SlotMap.shown c.self.inside.map).slots (line c.self.inside.order.blocks) c.self.invariant)
