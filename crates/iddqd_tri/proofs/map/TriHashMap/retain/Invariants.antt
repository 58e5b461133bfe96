-- Made by tests/widths from crates/iddqd_bi/proofs/map/BiHashMap/retain/Invariants.antt: change that file.
use Rattle.std.proofs.Common.{◌≡◌, drop, length}
use Rattle.std.specs.Fn.{CalledAt}
use Rattle.iddqd_store.specs.Slots.{contents}
use Rattle.iddqd_store.proofs.BagLemmas.Calling.{TakesEach}
use Rattle.iddqd_store.proofs.SlotLemmas.Next.{Completes}
use Rattle.iddqd_tri.proofs.map.TriHashMap.retain.Given as goal

abbrev pub invariant-loop-slot : goal.invariant-loop-slot
invariant-loop-slot g l = record {
  completes : Completes (CalledAt g.F.FnMut) l.fn.f (contents l.fn.self.slots) l.f l.self.slots l.from;
  callable : TakesEach g.F.FnMut l.f (contents (drop l.from l.self.slots));
  capacity : l.self.capacity ≡ l.fn.self.capacity;
  builder : l.self.builder ≡ l.fn.self.builder;
}

abbrev pub decreases-loop-slot : goal.decreases-loop-slot
decreases-loop-slot g l = length (contents (drop l.from l.self.slots))
