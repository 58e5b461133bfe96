use Rattle.std.proofs.Common.{◌<◌, ◌≤◌, length}
use Rattle.std.specs.Prelude.{IfSome}
use Rattle.iddqd_order.proofs.blocks.joins.thin_from.Given as goal

abbrev pub invariant-loop-at : goal.invariant-loop-at
invariant-loop-at g l = record {
  before : l.first ≤ l.at;
  room : l.room ≤ l.memory;
  order : IfSome l.found (λ n. n.0 ≤ n.1);
  within : IfSome l.found (λ n. n.1 < length l.row.blocks);
}
