use Rattle.std.proofs.Common.{◌≡◌, ◌-◌, ◌≤◌, length, All, vec_capacity}
use Rattle.iddqd_order.specs.Row.{IsSpare}
use Rattle.iddqd_order.proofs.row.stock.fill.Given as goal

abbrev pub invariant-loop-alloc : goal.invariant-loop-alloc
invariant-loop-alloc g l = record {
  unused : All (IsSpare l.memory) l.spare.items;
  room : vec_capacity l.spare ≡ vec_capacity l.initial.spare;
  below : length l.spare.items ≤ l.count;
}

abbrev pub decreases-loop-alloc : goal.decreases-loop-alloc
decreases-loop-alloc g l = l.count - length l.spare.items
