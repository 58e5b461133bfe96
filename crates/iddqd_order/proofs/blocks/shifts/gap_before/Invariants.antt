use Rattle.std.proofs.Common.{◌≡◌, ℕ, ◌<◌, ◌≤◌, length}
use Rattle.iddqd_order.specs.Row.{block_at}
use Rattle.iddqd_order.proofs.blocks.shifts.gap_before.Given as goal

abbrev pub invariant-loop-b : goal.invariant-loop-b
invariant-loop-b g l = record {
  before : l.b ≤ l.at;
  full : (k : ℕ) → l.b ≤ k → k < l.at → length (block_at l.row.blocks k) ≡ l.row.memory;
}

abbrev pub decreases-loop-b : goal.decreases-loop-b
decreases-loop-b g l = l.b
