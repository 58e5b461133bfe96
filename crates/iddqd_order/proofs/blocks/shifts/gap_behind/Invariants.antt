use Rattle.std.proofs.Common.{◌≡◌, ℕ, ◌-◌, ◌<◌, length}
use Rattle.iddqd_order.specs.Row.{block_at}
use Rattle.iddqd_order.proofs.blocks.shifts.gap_behind.Given as goal

abbrev pub invariant-loop-b : goal.invariant-loop-b
invariant-loop-b g l = record {
  behind : l.at < l.b;
  full : (k : ℕ) → l.at < k → k < l.b → length (block_at l.row.blocks k) ≡ l.row.memory;
}

abbrev pub decreases-loop-b : goal.decreases-loop-b
decreases-loop-b g l = l.count - l.b
