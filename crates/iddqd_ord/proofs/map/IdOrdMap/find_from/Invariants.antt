use Rattle.std.proofs.Common.{drop, length}
use Rattle.std.specs.Prelude.{IfSome}
use Rattle.std.specs.Fn.{CalledAt}
use Rattle.iddqd_store.proofs.BagLemmas.Calling.{TakesEach}
use Rattle.iddqd_ord.specs.Items.{items}
use Rattle.iddqd_order.specs.Row.{index_of, HasEntry}
use Rattle.iddqd_ord.proofs.ExtractLemmas.{HasRejected}
use Rattle.iddqd_ord.proofs.map.IdOrdMap.find_from.Given as goal

abbrev pub invariant-loop-next : goal.invariant-loop-next
invariant-loop-next g l = record {
  entry : IfSome l.next (HasEntry l.self.blocks);
  rejected : HasRejected (CalledAt g.F.FnMut) l.fn.f l.f (items l.self) (index_of l.self.blocks l.fn.from) (index_of l.self.blocks l.next);
  callable : TakesEach g.F.FnMut l.f (drop (index_of l.self.blocks l.next) (items l.self));
}

abbrev pub decreases-loop-next : goal.decreases-loop-next
decreases-loop-next g l = length (drop (index_of l.self.blocks l.next) (items l.self))
