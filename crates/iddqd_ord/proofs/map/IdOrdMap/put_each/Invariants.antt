use Rattle.std.proofs.Common.{◌≡◌, length}
use Rattle.std.specs.Vec.Iter.{into_iter_items, into_iter_len}
use Rattle.iddqd_ord.specs.Batches.{Gathers}
use Rattle.iddqd_ord.proofs.map.IdOrdMap.put_each.Given as goal

-- the items that came so far were put into the map
abbrev pub invariant-loop-item : goal.invariant-loop-item
invariant-loop-item g l = record {
  callable : (goal.iterator-loop-item g).can_next l.item-iterator;
  ending : (goal.iterator-loop-item g).is_finite l.item-iterator;
  gathers : Gathers g.T.IdOrdItem g.T.Key.Ord.cmp l.fn.self l.fn.list.items l.self (into_iter_items l.item-iterator);
  counted : length (into_iter_items l.item-iterator) ≡ into_iter_len l.item-iterator;
}
