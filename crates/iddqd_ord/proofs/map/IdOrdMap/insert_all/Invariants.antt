use Rattle.std.proofs.Common.{◌≡◌, ◌≤◌, ◌+◌, length}
use Rattle.std.specs.Vec.Iter.{into_iter_items, into_iter_len}
use Rattle.iddqd_ord.specs.Batches.{AreFree}
use Rattle.iddqd_ord.specs.Items.{items}
use Rattle.iddqd_ord.specs.Extensions.{with_items}
use Rattle.iddqd_ord.proofs.map.IdOrdMap.insert_all.Given as goal

-- the items that are left make with those of the map what all make
abbrev pub invariant-loop-item : goal.invariant-loop-item
invariant-loop-item g l = record {
  callable : (goal.iterator-loop-item g).can_next l.item-iterator;
  ending : (goal.iterator-loop-item g).is_finite l.item-iterator;
  all : with_items g.T.IdOrdItem g.T.Key.Ord.cmp (items l.self) (into_iter_items l.item-iterator) ≡ with_items g.T.IdOrdItem g.T.Key.Ord.cmp (items l.fn.self) l.fn.list.items;
  free : AreFree g.T.IdOrdItem g.T.Key.Ord.cmp (items l.self) (into_iter_items l.item-iterator);
  room : length (items l.self) + length (into_iter_items l.item-iterator) ≤ l.self.capacity;
  capacity : l.self.capacity ≡ l.fn.self.capacity;
  counted : length (into_iter_items l.item-iterator) ≡ into_iter_len l.item-iterator;
}
