use Rattle.std.proofs.Common.{◌≡◌}
use Rattle.iddqd_order.specs.Row.{entry_lists, start_of}
use Rattle.iddqd_order.proofs.iter.count_in.Given as goal

abbrev pub invariant-loop-block : goal.invariant-loop-block
invariant-loop-block g l = l.count ≡ start_of (entry_lists l.blocks) l.block-index
