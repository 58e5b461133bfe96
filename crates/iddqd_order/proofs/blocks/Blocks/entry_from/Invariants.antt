use Rattle.std.proofs.Common.{◌-◌, ◌≡◌}
use Rattle.iddqd_order.specs.Row.{position}
use Rattle.iddqd_order.proofs.blocks.Blocks.entry_from.Given as goal

abbrev pub invariant-loop-place : goal.invariant-loop-place
invariant-loop-place g l = record { same : position l.self.blocks l.place ≡ position l.fn.self.blocks l.fn.place }

abbrev pub decreases-loop-place : goal.decreases-loop-place
decreases-loop-place g l = l.blocks - l.place.block
