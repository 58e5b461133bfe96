use Rattle.std.proofs.Common.{◌≡◌, ◌≤◌, ◌<◌, ◌+◌, ◌*◌, ◌^◌, ◌∷◌, ℕ, length, drop, map}
use Rattle.std.specs.Prelude.{nat_eq, Some}
use Rattle.std.specs.List.{IsDistinct}
use Rattle.iddqd_store.specs.Rank.{walks_within}
use Rattle.iddqd_store.specs.Slots.{get}
use Rattle.iddqd_store.proofs.MapLemmas.Removing.{LeavesInTurn}
use Rattle.iddqd_sorted.specs.Items.{bag}
use Rattle.iddqd_sorted.specs.Overwriting.{map_of}
use Rattle.iddqd_sorted.proofs.map.Sorted.remove_slots.Given as goal

abbrev pub invariant-loop-index : goal.invariant-loop-index
invariant-loop-index g l = record {
  leave : LeavesInTurn (map_of l.fn.self) (map_of l.self) l.slots (drop l.index l.slots) l.taken;
  short : length l.taken ≤ l.index;
  others : (at : ℕ) → IsDistinct nat_eq (at ∷ l.slots) → get l.self.slots at ≡ get l.fn.self.slots at;
  left : (at : ℕ) (x : g.row.M-Item.Denot) → get l.self.slots at ≡ Some x → get l.fn.self.slots at ≡ Some x;
  asked : (r : ℕ) → length (bag l.fn.self) < 4 ^ r → l.meter ≤ l.fn.meter + l.index * (3 * r + 19);
  probed : l.probed ≤ l.fn.probed + walks_within (length (bag l.fn.self)) (map (λ _. l.index) g.M.SlotMap.ranks);
}
