use Rattle.std.proofs.Common.{◌≡◌, drop, length}
use Rattle.std.specs.Prelude.{IfSome}
use Rattle.std.specs.Fn.{CalledAt}
use Rattle.iddqd_store.proofs.BagLemmas.Calling.{TakesEach}
use Rattle.iddqd_ord.specs.Items.{items}
use Rattle.iddqd_order.specs.Row.{index_of, HasEntry}
use Rattle.iddqd_ord.proofs.RewriteLemmas.{Completes}
use Rattle.iddqd_ord.proofs.map.IdOrdMap.retain_mut.Given as goal

abbrev pub invariant-loop-next : goal.invariant-loop-next
invariant-loop-next g l = record {
  entry : IfSome l.next (HasEntry l.self.blocks);
  completes : Completes (CalledAt g.F.FnMut) g.T.IdOrdItemMut.put l.fn.f (items l.fn.self) l.f (items l.self) (index_of l.self.blocks l.next);
  callable : TakesEach g.F.FnMut l.f (drop (index_of l.self.blocks l.next) (items l.self));
  capacity : l.self.capacity ≡ l.fn.self.capacity;
}

abbrev pub decreases-loop-next : goal.decreases-loop-next
decreases-loop-next g l = length (drop (index_of l.self.blocks l.next) (items l.self))
