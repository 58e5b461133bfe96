use Rattle.std.proofs.Common.{length}
use Rattle.std.specs.Iterator.{size}
use Rattle.iddqd_store.specs.Bag.Building.{FitsOn}
use Rattle.iddqd_sorted.specs.Items.{items, by_sort}
use Rattle.iddqd_sorted.proofs.Batches.{InsertsBatch}
use Rattle.iddqd_sorted.proofs.Extending.{IsWithin}
use Rattle.iddqd_sorted.proofs.map.Sorted.extend_unique.Given as goal

-- the items that came so far were added, and their slots are noted
abbrev pub invariant-loop-item : goal.invariant-loop-item
invariant-loop-item g l = record {
  callable : (goal.iterator-loop-item g).can_next l.item-iterator;
  ending : (goal.iterator-loop-item g).is_finite l.item-iterator;
  batch : InsertsBatch g.M.SlotMap.ranks (by_sort g.M.Item.Sortable.sort_key g.M.Item.SortKey.Ord.cmp g.M.SlotMap.first_key g.M.FirstKey.Ord.cmp)
      (FitsOn g.I.IntoIterator.into_iter_gives g.I.IntoIter.Iterator.remaining l.fn.iter (length (items l.fn.self)) l.fn.self.capacity)
      (size (g.I.IntoIter.Iterator.remaining l.item-iterator)) l.fn.self l.self l.batch.slots l.yielded;
  within : IsWithin l.fn.self l.self l.yielded;
}
