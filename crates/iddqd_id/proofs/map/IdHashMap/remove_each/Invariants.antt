-- Made by tests/widths from crates/iddqd_bi/proofs/map/BiHashMap/remove_each/Invariants.antt: change that file.
use Rattle.std.proofs.Common.{◌≡◌, [], drop, length}
use Rattle.std.specs.Prelude.{take}
use Rattle.iddqd_store.specs.Slots.{contents}
use Rattle.iddqd_id.proofs.map.IdHashMap.remove_each.Given as goal

abbrev pub invariant-loop-slot : goal.invariant-loop-slot
invariant-loop-slot g l = record {
  empty : contents (take l.from l.self.slots) ≡ [];
  capacity : l.self.capacity ≡ l.fn.self.capacity;
  builder : l.self.builder ≡ l.fn.self.builder;
}

abbrev pub decreases-loop-slot : goal.decreases-loop-slot
decreases-loop-slot g l = length (contents (drop l.from l.self.slots))
