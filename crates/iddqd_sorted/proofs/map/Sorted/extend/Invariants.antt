use Rattle.std.proofs.Common.{◌≡◌, ◌≤◌, length}
use Rattle.std.specs.Prelude.{fold}
use Rattle.std.specs.Iterator.{size}
use Rattle.iddqd_store.specs.Bag.Building.{FitsOn}
use Rattle.iddqd_sorted.specs.Items.{items, by_sort}
use Rattle.iddqd_sorted.specs.Overwriting.{overwritten}
use Rattle.iddqd_sorted.proofs.Extending.{HasRoomOn, IsWithin}
use Rattle.iddqd_sorted.proofs.map.Sorted.extend.Given as goal

-- the items that came so far were inserted
abbrev pub invariant-loop-item : goal.invariant-loop-item
invariant-loop-item g l = record {
  callable : (goal.iterator-loop-item g).can_next l.item-iterator;
  ending : (goal.iterator-loop-item g).is_finite l.item-iterator;
  extends : items l.self ≡ fold (overwritten g.M.SlotMap.ranks (by_sort g.M.Item.Sortable.sort_key g.M.Item.SortKey.Ord.cmp g.M.SlotMap.first_key g.M.FirstKey.Ord.cmp)) (items l.fn.self) l.yielded;
  fits : length (items l.self) ≤ l.self.capacity;
  room : HasRoomOn (FitsOn g.I.IntoIterator.into_iter_gives g.I.IntoIter.Iterator.remaining l.fn.iter (length (items l.fn.self)) l.fn.self.capacity)
      (size (g.I.IntoIter.Iterator.remaining l.item-iterator)) l.fn.self l.self;
  within : IsWithin l.fn.self l.self l.yielded;
}
