use Rattle.std.proofs.Common.{◌≡◌, ℕ, ◌-◌, ◌<◌, ◌≤◌, length}
use Rattle.iddqd_order.specs.Row.{KeepsEntries, start_of}
use Rattle.iddqd_order.proofs.blocks.joins.condense.Given as goal

abbrev pub invariant-loop-at : goal.invariant-loop-at
invariant-loop-at g l = record {
  keeps : KeepsEntries l.initial.row l.row;
  count : length l.row.blocks ≡ length l.initial.row.blocks;
  above : l.from ≤ l.at;
  within : l.at ≤ l.to;
  before : (k : ℕ) → k ≤ l.from → start_of l.row.blocks k ≡ start_of l.initial.row.blocks k;
  behind : (k : ℕ) → l.at < k → start_of l.row.blocks k ≡ start_of l.initial.row.blocks k;
}

abbrev pub decreases-loop-at : goal.decreases-loop-at
decreases-loop-at g l = l.to - l.at
