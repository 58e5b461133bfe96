use Rattle.std.proofs.Common.{◌≡◌, ◌≤◌, length, drop}
use Rattle.std.specs.Prelude.{vec_capacity}
use Rattle.iddqd_store.proofs.MapLemmas.Removing.{LeavesInTurn}
use Rattle.iddqd_bi.proofs.map.BiHashMap.remove_batch.Given as goal

abbrev pub invariant-loop-index : goal.invariant-loop-index
invariant-loop-index g l = record {
  leave : LeavesInTurn l.fn.self l.self l.slots.items (drop l.index l.slots.items) l.items.items;
  taken : length l.items.items ≡ l.index;
  room : length l.slots.items ≤ vec_capacity l.items;
}
