use Rattle.std.proofs.Common.{◌≡◌, ◌≤◌, ◌++◌, length, drop}
use Rattle.std.specs.Prelude.{vec_capacity, IsPermutation}
use Rattle.iddqd_store.proofs.MapLemmas.Removing.{LeavesInTurn}
use Rattle.iddqd_sorted.specs.Items.{items, by_sort}
use Rattle.iddqd_sorted.specs.Ordered.{IsAscending}
use Rattle.iddqd_sorted.specs.Overwriting.{map_of}
use Rattle.iddqd_sorted.proofs.map.Sorted.remove_batch.Given as goal

-- the items of the slots up to the index have left
abbrev pub invariant-loop-index : goal.invariant-loop-index
invariant-loop-index g l = record {
  leave : LeavesInTurn (map_of l.fn.self) (map_of l.self) l.slots.items (drop l.index l.slots.items) l.items.items;
  taken : length l.items.items ≡ l.index;
  room : length l.slots.items ≤ vec_capacity l.items;
  left : IsPermutation (items l.fn.self) (l.items.items ++ items l.self);
  ascending : IsAscending (by_sort g.M.Item.Sortable.sort_key g.M.Item.SortKey.Ord.cmp g.M.SlotMap.first_key g.M.FirstKey.Ord.cmp) (items l.self);
}
