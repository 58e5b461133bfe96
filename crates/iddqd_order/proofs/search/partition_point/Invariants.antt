use Rattle.std.proofs.Common.{◌≡◌, ℕ, ◌+◌, ◌*◌, ◌^◌, ◌<◌, ◌≤◌, true, false}
use Rattle.std.specs.Ordering.{is_gt}
use Rattle.iddqd_order.proofs.search.partition_point.Given as goal

abbrev pub invariant-loop-size : goal.invariant-loop-size
invariant-loop-size g l =
    let at = g.A.CompareAt.at l.compared in
    record {
      within : l.low + l.size ≤ l.len;
      below : (k : ℕ) → k < l.low → is_gt (at k) ≡ false;
      above : (k : ℕ) → l.low + l.size ≤ k → k < l.len → is_gt (at k) ≡ true;
      asks : (r : ℕ) → l.len ≤ 2 * 4 ^ r + 1 → (j : ℕ) × (l.meter + 3 * j ≤ l.initial.meter + 3 * r) × (l.size ≤ 2 * 4 ^ j + 1);
    }

abbrev pub decreases-loop-size : goal.decreases-loop-size
decreases-loop-size g l = l.size

abbrev pub invariant-loop-number : goal.invariant-loop-number
invariant-loop-number g l =
    let at = g.A.CompareAt.at l.compared in
    record {
      within : l.low + l.size ≤ l.len;
      few : l.size ≤ 3;
      counted : l.low + l.more ≤ l.number;
      below : (k : ℕ) → k < l.low + l.more → is_gt (at k) ≡ false;
      above : l.low + l.more < l.number → (k : ℕ) → l.low + l.more ≤ k → k < l.len → is_gt (at k) ≡ true;
      beyond : (k : ℕ) → l.low + l.size ≤ k → k < l.len → is_gt (at k) ≡ true;
      asks : l.meter + l.low ≤ l.initial.meter + l.number;
    }
