use Rattle.std.proofs.Common.{◌≤◌, length, refl, ap, ◌∙◌, arith}
use Rattle.std.specs.Fn.{CalledAt}
use Rattle.iddqd_store.proofs.BagLemmas.Calling.{TakesEach-in_turn, takes_first, takes_others}
use Rattle.iddqd_ord.specs.Items.{items}
use Rattle.iddqd_order.specs.Row.{position, index_of}
use Rattle.iddqd_ord.proofs.RewriteLemmas.{from_index, completes_next, completes_all, filter_maps_rewritten, length_rewritten}
use Rattle.iddqd_ord.proofs.VisitLemmas.{all_passed}
use Rattle.iddqd_ord.proofs.map.IdOrdMap.retain_mut.Goals as goal

pub loop-next-init : goal.loop-next-init
loop-next-init g c = record {
  entry = c.first_place-next.ensures.entry;
  completes = rw c.first_place-next.ensures.index (λ rest h. h);
  callable = rw c.first_place-next.ensures.index (TakesEach-in_turn g.F.FnMut c.args.f (items c.args.self.now) c.requires);
  capacity = refl;
}

pub rewrite_in-next-requires-clause-callable : goal.rewrite_in-next-requires-clause-callable
rewrite_in-next-requires-clause-callable g c = λ x found.
    let at = c.loop-next in
    takes_first g.F.FnMut at.f _ x _ (from_index (items at.self) (position at.self.blocks c.in-Some.place) x found) (rw c.in-Some.is at at.invariant.callable)

pub loop-next-preserved : goal.loop-next-preserved
loop-next-preserved g c =
    let at = c.loop-next in
    let done = c.rewrite_in-next.ensures in
    let made = done.rewritten in
    let i = position at.self.blocks c.in-Some.place in
    let after = c.rewrite_in-next.new in
    record {
      entry = done.entry;
      completes = completes_next (CalledAt g.F.FnMut) g.T.IdOrdItemMut.put c.args.f (items c.args.self.now) at.f after.f (items at.self) (items after.self) i
          (index_of after.self.blocks c.rewrite_in-next.result) made.0 made.1 made.2 made.3 made.4 done.behind (rw c.in-Some.is at at.invariant.completes);
      callable = rw done.behind
          (takes_others g.F.FnMut at.f _ made.0 _ made.1 after.f (from_index (items at.self) i made.0 made.2) made.3 (rw c.in-Some.is at at.invariant.callable));
      capacity = done.capacity ∙ at.invariant.capacity;
    }

pub loop-next-smaller : goal.loop-next-smaller
loop-next-smaller g c =
    let at = c.loop-next in
    let done = c.rewrite_in-next.ensures in
    let made = done.rewritten in
    rw c.in-Some.is (omega (arith, ap length done.behind, ap length (from_index (items at.self) (position at.self.blocks c.in-Some.place) made.0 made.2)))

pub returns : goal.returns
returns g c =
    let at = c.loop-next in
    let past : length (items at.self) ≤ index_of at.self.blocks at.next = all_passed at.self at.next c.in_default.not-Some in
    let all = completes_all (CalledAt g.F.FnMut) g.T.IdOrdItemMut.put c.args.f (items c.args.self.now) at.f (items at.self) (index_of at.self.blocks at.next) past at.invariant.completes in
    record {
      rewrites = all;
      filter_maps = filter_maps_rewritten (CalledAt g.F.FnMut) g.T.IdOrdItemMut.put c.args.f (items c.args.self.now) (items at.self) all;
      no_more = length_rewritten (CalledAt g.F.FnMut) g.T.IdOrdItemMut.put c.args.f (items c.args.self.now) (items at.self) all;
      capacity = at.invariant.capacity;
    }
