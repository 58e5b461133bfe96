use Rattle.std.proofs.Common.{◌≡◌, ◌≤◌, drop, length}
use Rattle.std.specs.Prelude.{IfSome}
use Rattle.std.specs.Fn.{CalledAt}
use Rattle.iddqd_store.proofs.BagLemmas.Calling.{TakesEach}
use Rattle.iddqd_sorted.specs.Items.{items}
use Rattle.iddqd_order.specs.Row.{index_of, line, HasEntry}
use Rattle.iddqd_order.proofs.RetainLemmas.{Completes}
use Rattle.iddqd_sorted.proofs.map.Sorted.retain.Given as goal

abbrev pub invariant-loop-next : goal.invariant-loop-next
invariant-loop-next g l = record {
  entry : IfSome l.next (HasEntry l.self.blocks);
  completes : Completes (CalledAt g.F.FnMut) l.fn.f (items l.fn.self) l.f (items l.self) (index_of l.self.blocks l.next);
  callable : TakesEach g.F.FnMut l.f (drop (index_of l.self.blocks l.next) (items l.self));
  counted : length (items l.self) ≡ length (line l.self.blocks);
  shorter : length (items l.self) ≤ length (items l.fn.self);
  capacity : l.self.capacity ≡ l.fn.self.capacity;
  builder : l.self.builder ≡ l.fn.self.builder;
}

abbrev pub decreases-loop-next : goal.decreases-loop-next
decreases-loop-next g l = length (drop (index_of l.self.blocks l.next) (items l.self))
