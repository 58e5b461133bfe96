use Rattle.std.proofs.Common.{◌≡◌, ◌+◌, ◌≤◌, ◌++◌, length}
use Rattle.std.specs.Prelude.{reverse}
use Rattle.iddqd_order.proofs.block.Block.pull.Given as goal

abbrev pub invariant-loop-left : goal.invariant-loop-left
invariant-loop-left g l = record {
  parts : l.self.entries ++ reverse l.next.entries ≡ l.fn.self.entries ++ l.fn.next.entries;
  counted : length l.self.entries + l.left ≡ length l.fn.self.entries + l.count;
  within : l.left ≤ length l.next.entries;
  room : l.self.room ≡ l.fn.self.room;
  next_room : l.next.room ≡ l.fn.next.room;
}

abbrev pub decreases-loop-left : goal.decreases-loop-left
decreases-loop-left g l = l.left
