use Rattle.std.proofs.Common.{◌≡◌, ◌+◌, ◌-◌, ◌≤◌}
use Rattle.iddqd_order.specs.Row.{position, start_of}
use Rattle.iddqd_order.proofs.blocks.splits.place_of.Given as goal

abbrev pub invariant-loop-place : goal.invariant-loop-place
invariant-loop-place g l = record {
  within : l.place.block ≤ l.last;
  same : position l.row.blocks l.place ≡ start_of l.row.blocks l.from + l.before;
}

abbrev pub decreases-loop-place : goal.decreases-loop-place
decreases-loop-place g l = l.last - l.place.block
