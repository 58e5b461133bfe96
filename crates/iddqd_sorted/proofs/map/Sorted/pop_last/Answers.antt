use Rattle.iddqd_order.specs.Row.{line}
use Rattle.iddqd_sorted.proofs.Listed.{long}
use Rattle.iddqd_order.proofs.FilterLemmas.{remove-last}
use Rattle.iddqd_sorted.proofs.Sorting.{total}
use Rattle.iddqd_sorted.proofs.map.Sorted.pop_last.Goals as goal

pub returns-clause-parts : goal.returns-clause-parts
returns-clause-parts g c =
    let entries = long (total g.M.Item.Sortable.sort_key g.met.M.Item.SortKey.Ord.total g.M.SlotMap.first_key g.met.M.FirstKey.Ord.total) g.M.Item.Sortable.sort_key (g.M.SlotMap.shown c.self.inside.map).slots (line c.self.inside.order.blocks) c.self.invariant in
    rw c.remove_in-item.ensures.rest (remove-last _ _ _ c.remove_in-item.ensures.within (rw (← c.self.view_is, entries) c.in_ok-place.ensures.index) (c.remove_in-item.ensures.item _))
