use Rattle.iddqd_sorted.specs.Items.{by_sort}
use Rattle.iddqd_sorted.proofs.Listed.{IsListed-none}
use Rattle.iddqd_sorted.proofs.map.Sorted.clear.Goals as goal

pub invariant_of-self : goal.invariant_of-self
invariant_of-self g c =
    rw c.clear.ensures.none (IsListed-none (by_sort g.M.Item.Sortable.sort_key g.M.Item.SortKey.Ord.cmp g.M.SlotMap.first_key g.M.FirstKey.Ord.cmp) g.M.Item.Sortable.sort_key (g.M.SlotMap.shown c.clear-2.new.self).slots c.clear-2.ensures.empty)
