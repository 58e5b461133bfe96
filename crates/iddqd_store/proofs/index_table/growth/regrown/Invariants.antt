use Rattle.std.proofs.Common.{◌≡◌, ◌+◌, ◌-◌, ◌*◌, ◌≤◌, length}
use Rattle.iddqd_store.specs.Slots.{contents}
use Rattle.iddqd_store.proofs.TableLemmas.Chunk.{IsChunk, packed}
use Rattle.iddqd_store.proofs.TableLemmas.Grow.{HasFront}
use Rattle.iddqd_store.proofs.index_table.growth.regrown.Given as goal

abbrev pub invariant-loop-from : goal.invariant-loop-from
invariant-loop-from l = record {
  front : HasFront l.cells l.grown l.from;
  within : l.from ≤ length l.cells;
  size : length l.grown ≡ l.count;
  room : length l.places ≡ 64;
  probed : l.meter ≤ l.fn.meter + l.from + 2 * length (contents l.grown) + length (contents l.grown) * l.pairs;
}

abbrev pub decreases-loop-from : goal.decreases-loop-from
decreases-loop-from l = length l.cells - l.from

abbrev pub invariant-loop-i : goal.invariant-loop-i
invariant-loop-i l = record {
  chunk : IsChunk l.cells l.from l.i l.places l.full;
  room : length l.places ≡ 64;
  probed : l.meter ≤ l.fn.meter + l.i + 2 * length (contents l.grown) + length (contents l.grown) * l.pairs;
}

abbrev pub invariant-loop-k : goal.invariant-loop-k
invariant-loop-k l = record {
  front : HasFront (packed l.cells l.from l.places l.full) l.grown (l.from + l.k);
  size : length l.grown ≡ l.count;
  probed : l.meter ≤ l.fn.meter + l.to + 2 * length (contents l.grown) + length (contents l.grown) * l.pairs;
}
