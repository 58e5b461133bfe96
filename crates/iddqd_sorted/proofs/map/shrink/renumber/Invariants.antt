use Rattle.std.proofs.Common.{◌≡◌, ◌-◌, length}
use Rattle.std.specs.Prelude.{IfSome}
use Rattle.iddqd_order.specs.Row.{entries_in, index_of, HasEntry}
use Rattle.iddqd_sorted.specs.Renumbered.{renumbered}
use Rattle.iddqd_sorted.proofs.Shrinking.{changed_to}
use Rattle.iddqd_sorted.proofs.map.shrink.renumber.Given as goal

abbrev pub invariant-loop-next : goal.invariant-loop-next
invariant-loop-next g l = record {
  entry : IfSome l.next (HasEntry l.order.blocks);
  entries : entries_in l.order ≡ changed_to (renumbered l.numbers) (entries_in l.fn.order) (index_of l.order.blocks l.next);
  capacity : l.order.capacity ≡ l.fn.order.capacity;
}

abbrev pub decreases-loop-next : goal.decreases-loop-next
decreases-loop-next g l = length (entries_in l.order) - index_of l.order.blocks l.next
