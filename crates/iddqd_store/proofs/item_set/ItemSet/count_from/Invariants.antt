use Rattle.std.specs.Prelude.{◌≡◌, ◌+◌, ◌≤◌, drop, length}
use Rattle.iddqd_store.specs.Slots.{contents}
use Rattle.iddqd_store.proofs.item_set.ItemSet.count_from.Given as goal

abbrev pub invariant-loop-number : goal.invariant-loop-number
invariant-loop-number g l = record {
  counted : l.count + length (contents (drop l.number l.fn.self.slots)) ≡ length (contents (drop l.from l.fn.self.slots));
  below : l.count ≤ l.number;
}
