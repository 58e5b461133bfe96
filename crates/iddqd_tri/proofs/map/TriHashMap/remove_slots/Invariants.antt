-- Made by tests/widths from crates/iddqd_bi/proofs/map/BiHashMap/remove_slots/Invariants.antt: change that file.
use Rattle.std.proofs.Common.{◌≡◌, ◌≤◌, ◌∷◌, ℕ, length, drop}
use Rattle.std.specs.Prelude.{nat_eq, Some}
use Rattle.std.specs.List.{IsDistinct}
use Rattle.iddqd_store.specs.Slots.{get}
use Rattle.iddqd_store.proofs.MapLemmas.Removing.{LeavesInTurn}
use Rattle.iddqd_tri.proofs.map.TriHashMap.remove_slots.Given as goal

abbrev pub invariant-loop-index : goal.invariant-loop-index
invariant-loop-index g l = record {
  leave : LeavesInTurn l.fn.self l.self l.found (drop l.index l.found) l.taken;
  short : length l.taken ≤ l.index;
  others : (at : ℕ) → IsDistinct nat_eq (at ∷ l.found) → get l.self.slots at ≡ get l.fn.self.slots at;
  left : (at : ℕ) (x : g.row.T.Denot) → get l.self.slots at ≡ Some x → get l.fn.self.slots at ≡ Some x;
}
