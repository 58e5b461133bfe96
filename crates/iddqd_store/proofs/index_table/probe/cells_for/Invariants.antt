use Rattle.std.proofs.Common.{ℕ, ◌≡◌, ◌-◌, ◌*◌, ◌/◌, ◌^◌, ◌<◌}
use Rattle.iddqd_store.proofs.index_table.probe.cells_for.Given as goal

abbrev pub invariant-loop-count : goal.invariant-loop-count
invariant-loop-count l = (k : ℕ) × (l.count ≡ 8 * 2 ^ k) × ((j : ℕ) → j < k → 7 * 2 ^ j < l.pairs)

abbrev pub decreases-loop-count : goal.decreases-loop-count
decreases-loop-count l = l.pairs - l.count / 8 * 7
