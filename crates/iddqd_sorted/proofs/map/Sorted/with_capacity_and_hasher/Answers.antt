use Rattle.std.proofs.Common.{◌∙◌, ap}
use Rattle.iddqd_store.specs.Slots.{contents}
use Rattle.iddqd_sorted.specs.Items.{by_sort}
use Rattle.iddqd_sorted.proofs.Listed.{IsListed-none}
use Rattle.iddqd_sorted.proofs.map.Sorted.with_capacity_and_hasher.Goals as goal

pub invariant_of-result : goal.invariant_of-result
invariant_of-result g c =
    rw c.in_ok-with_capacity.ensures.blocks (IsListed-none (by_sort g.M.Item.Sortable.sort_key g.M.Item.SortKey.Ord.cmp g.M.SlotMap.first_key g.M.FirstKey.Ord.cmp) g.M.Item.Sortable.sort_key (g.M.SlotMap.shown c.grow.new.self).slots (ap contents c.grow.ensures.slots ∙ c.empty-map.ensures.empty))
