-- Made by tests/widths from crates/iddqd_bi/proofs/map/BiHashMap/items_of/Invariants.antt: change that file.
use Rattle.std.proofs.Common.{◌≡◌, ◌≤◌, ◌+◌, ◌++◌, length, map}
use Rattle.iddqd_store.specs.Slots.Found.{items_at}
use Rattle.iddqd_tri.proofs.map.TriHashMap.items_of.Given as goal

abbrev pub invariant-loop-slot : goal.invariant-loop-slot
invariant-loop-slot g l = record {
  items : map (λ item. item.now) l.items ++ items_at l.self.slots l.slot-iterator ≡ items_at l.self.slots l.found;
  short : length l.items + length l.slot-iterator ≤ length l.found;
}
