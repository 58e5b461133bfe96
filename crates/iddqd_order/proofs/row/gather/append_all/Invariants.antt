use Rattle.std.proofs.Common.{◌≡◌, ◌≤◌, ◌++◌, length, vec_capacity, reverse}
use Rattle.iddqd_order.specs.Row.{line, entry_lists}
use Rattle.iddqd_order.proofs.row.gather.append_all.Given as goal

abbrev pub invariant-loop-from : goal.invariant-loop-from
invariant-loop-from g l = record {
  all : l.wide.entries ++ line (entry_lists (reverse l.from.items)) ≡ l.fn.wide.entries ++ line (entry_lists l.fn.from.items);
  room : vec_capacity l.from ≡ vec_capacity l.fn.from;
  no_less : l.fn.wide.room ≤ l.wide.room;
}

abbrev pub decreases-loop-from : goal.decreases-loop-from
decreases-loop-from g l = length l.from.items
