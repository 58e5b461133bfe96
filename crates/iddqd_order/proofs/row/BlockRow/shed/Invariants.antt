use Rattle.std.proofs.Common.{◌≡◌}
use Rattle.iddqd_order.proofs.row.BlockRow.shed.Given as goal

abbrev pub invariant-loop-self : goal.invariant-loop-self
invariant-loop-self g l = l.self.blocks ≡ l.initial.self.blocks

abbrev pub decreases-loop-self : goal.decreases-loop-self
decreases-loop-self g l = l.self.spare
