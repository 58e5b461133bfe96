use Rattle.std.proofs.Common.{◌≡◌, ◌+◌}
use Rattle.iddqd_order.specs.Row.{start_of}
use Rattle.iddqd_order.proofs.blocks.splits.position_of.Given as goal

abbrev pub invariant-loop-b : goal.invariant-loop-b
invariant-loop-b g l = start_of l.row.blocks l.from + l.before ≡ start_of l.row.blocks l.b
