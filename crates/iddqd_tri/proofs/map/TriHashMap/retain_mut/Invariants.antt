-- Made by tests/widths from crates/iddqd_bi/proofs/map/BiHashMap/retain_mut/Invariants.antt: change that file.
use Rattle.std.proofs.Common.{◌≡◌, drop, length}
use Rattle.std.specs.Fn.{CalledAt}
use Rattle.iddqd_store.specs.Bag.Storing.{Rewrites}
use Rattle.iddqd_store.specs.Map.Walk.{to_come}
use Rattle.iddqd_store.specs.Slots.{contents}
use Rattle.iddqd_store.proofs.BagLemmas.Calling.{TakesEach}
use Rattle.iddqd_store.proofs.MapLemmas.Updating.{Completes}
use Rattle.iddqd_tri.proofs.map.TriHashMap.retain_mut.Given as goal

abbrev pub invariant-loop-slot : goal.invariant-loop-slot
invariant-loop-slot g l = record {
  completes : Completes (Rewrites (CalledAt g.F.FnMut) g.T.TriHashItemMut.put) l.fn.f (contents l.fn.self.slots) l.f l.self l.from;
  callable : TakesEach g.F.FnMut l.f (to_come l.self l.from);
  capacity : l.self.capacity ≡ l.fn.self.capacity;
  builder : l.self.builder ≡ l.fn.self.builder;
}

abbrev pub decreases-loop-slot : goal.decreases-loop-slot
decreases-loop-slot g l = length (contents (drop l.from l.self.slots))
