-- Made by tests/widths from crates/iddqd_bi/proofs/map/BiHashMap/extend/Invariants.antt: change that file.
use Rattle.std.proofs.Common.{length}
use Rattle.std.specs.Iterator.{size}
use Rattle.iddqd_store.specs.Map.{bag}
use Rattle.iddqd_store.specs.Map.State.{ExtendsTo, state_of}
use Rattle.iddqd_store.specs.Bag.Building.{FitsOn}
use Rattle.iddqd_store.proofs.MapLemmas.Fitting.{HasRoomOn}
use Rattle.iddqd_tri.proofs.map.TriHashMap.extend.Given as goal

-- the items that came so far were inserted
abbrev pub invariant-loop-item : goal.invariant-loop-item
invariant-loop-item g l = record {
  callable : (goal.iterator-loop-item g).can_next l.item-iterator;
  ending : (goal.iterator-loop-item g).is_finite l.item-iterator;
  extends : ExtendsTo g.T.Ranked.ranks (state_of l.fn.self) l.yielded (state_of l.self);
  room : HasRoomOn (FitsOn g.I.IntoIterator.into_iter_gives g.I.IntoIter.Iterator.remaining l.fn.iter (length (bag l.fn.self)) l.fn.self.capacity)
      (size (g.I.IntoIter.Iterator.remaining l.item-iterator)) l.fn.self l.self;
}
