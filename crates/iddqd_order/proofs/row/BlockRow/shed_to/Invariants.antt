use Rattle.std.proofs.Common.{◌≡◌, ◌+◌, ◌*◌, ◌≤◌, length}
use Rattle.iddqd_order.proofs.row.BlockRow.shed_to.Given as goal

abbrev pub invariant-loop-self : goal.invariant-loop-self
invariant-loop-self g l = record {
  blocks : l.self.blocks ≡ l.initial.self.blocks;
  most : l.self.most ≡ l.initial.self.most;
  held : l.entries ≤ l.self.memory * (length l.self.blocks + l.self.spare);
}

abbrev pub decreases-loop-self : goal.decreases-loop-self
decreases-loop-self g l = l.self.spare
