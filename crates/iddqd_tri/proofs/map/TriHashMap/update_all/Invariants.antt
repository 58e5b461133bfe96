-- Made by tests/widths from crates/iddqd_bi/proofs/map/BiHashMap/update_all/Invariants.antt: change that file.
use Rattle.std.proofs.Common.{◌≡◌, length}
use Rattle.std.specs.Fn.{CalledAt}
use Rattle.iddqd_store.specs.Bag.Storing.{Writes}
use Rattle.iddqd_store.specs.Map.Walk.{to_come}
use Rattle.iddqd_store.specs.Slots.{contents}
use Rattle.iddqd_store.proofs.BagLemmas.Calling.{TakesEach}
use Rattle.iddqd_store.proofs.MapLemmas.Updating.{Completes}
use Rattle.iddqd_tri.proofs.map.TriHashMap.update_all.Given as goal

abbrev pub invariant-loop-number : goal.invariant-loop-number
invariant-loop-number g l = record {
  completes : Completes (Writes (CalledAt g.F.FnMut) g.T.TriHashItemMut.put) l.fn.f (contents l.fn.self.slots) l.f l.self l.number;
  callable : TakesEach g.F.FnMut l.f (to_come l.self l.number);
  slots : length l.self.slots ≡ length l.fn.self.slots;
  capacity : l.self.capacity ≡ l.fn.self.capacity;
  builder : l.self.builder ≡ l.fn.self.builder;
}
