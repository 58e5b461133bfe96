use Rattle.std.proofs.Common.{length, All}
use Rattle.iddqd_order.specs.Row.{IsSpare}
use Rattle.iddqd_order.proofs.row.stock.free_all.Given as goal

abbrev pub invariant-loop-spare : goal.invariant-loop-spare
invariant-loop-spare g l = All (IsSpare l.memory) l.spare.items

abbrev pub decreases-loop-spare : goal.decreases-loop-spare
decreases-loop-spare g l = length l.spare.items
