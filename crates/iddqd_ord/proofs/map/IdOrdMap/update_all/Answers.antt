use Rattle.std.proofs.Common.{◌≡◌, ℕ, ◌+◌, ◌≤◌, None, length, drop, suc, refl, sym, ap, ◌∙◌, subst, arith}
use Rattle.std.specs.Fn.{CalledAt}
use Rattle.iddqd_store.proofs.BagLemmas.Calling.{TakesEach, TakesEach-in_turn, takes_first, takes_others}
use Rattle.iddqd_ord.specs.Items.{OrdMap, items}
use Rattle.iddqd_order.specs.Row.{line, position, index_of}
use Rattle.iddqd_order.proofs.PlaceLemmas.{position-below}
use Rattle.iddqd_ord.specs.Writing.{position-written, HasEntry-written, index-written}
use Rattle.iddqd_ord.proofs.VisitLemmas.{all_passed, drop-next, drop_left, completes_next, completes_all, maps_written}
use Rattle.iddqd_ord.proofs.map.IdOrdMap.update_all.Goals as goal

pub loop-next-init : goal.loop-next-init
loop-next-init g c = record {
  there = λ x is. rw is at c.first_place-next.ensures.entry;
  completes = rw c.first_place-next.ensures.index (λ rest h. h);
  callable = rw c.first_place-next.ensures.index (TakesEach-in_turn g.F.FnMut c.args.f (items c.args.self.now) c.requires);
  capacity = refl;
}

pub store_in-requires-clause-there : goal.store_in-requires-clause-there
store_in-requires-clause-there g c = c.loop-next.invariant.there c.in-Some.place c.in-Some.is

pub store_in-requires-clause-callable : goal.store_in-requires-clause-callable
store_in-requires-clause-callable g c = λ x found.
    (let at = c.loop-next in
    let i = position at.self.blocks c.in-Some.place in
    takes_first g.F.FnMut at.f (drop i (items at.self)) x _ (drop-next (items at.self) i x found) (rw c.in-Some.is at at.invariant.callable))

pub next_place-next-requires : goal.next_place-next-requires
next_place-next-requires g c =
    let stored = c.store_in.ensures.stored in
    rw stored.4 (HasEntry-written c.loop-next.self c.in-Some.place (λ y. g.T.IdOrdItemMut.put y stored.1) c.in-Some.place (c.loop-next.invariant.there c.in-Some.place c.in-Some.is))

pub loop-next-smaller : goal.loop-next-smaller
loop-next-smaller g c =
    let at = c.loop-next in
    let there = at.invariant.there c.in-Some.place c.in-Some.is in
    let stored = c.store_in.ensures.stored in
    let f = λ (y : g.row.T.Denot). g.T.IdOrdItemMut.put y stored.1 in
    let next = c.next_place-next.ensures.index ∙ ap (λ (m : OrdMap g.row.T.Denot). position m.blocks c.in-Some.place + 1) stored.4 ∙ ap (λ (n : ℕ). n + 1) (position-written at.self c.in-Some.place f c.in-Some.place) in
    let long = ap (λ (m : OrdMap g.row.T.Denot). length (line m.blocks)) stored.4 ∙ index-written at.self c.in-Some.place f None in
    rw c.in-Some.is (omega (arith, next, long, position-below at.self.blocks c.in-Some.place there))

pub loop-next-preserved : goal.loop-next-preserved
loop-next-preserved g c =
    let at = c.loop-next in
    let i = position at.self.blocks c.in-Some.place in
    let stored = c.store_in.ensures.stored in
    let now = items at.self in
    let new = items c.store_in.new.self in
    let j = index_of c.store_in.new.self.blocks c.next_place-next.result in
    let next : j ≡ i + 1 = c.next_place-next.ensures.index ∙ ap (λ (m : OrdMap g.row.T.Denot). position m.blocks c.in-Some.place + 1) stored.4
    ∙ ap (λ (n : ℕ). n + 1) (position-written at.self c.in-Some.place (λ y. g.T.IdOrdItemMut.put y stored.1) c.in-Some.place) in
    record {
      there = λ x is. rw is at c.next_place-next.ensures.entry;
      completes = completes_next (CalledAt g.F.FnMut) g.T.IdOrdItemMut.put c.args.f (items c.args.self.now) at.f c.store_in.new.f now new i j stored.0 stored.1
          stored.2 stored.3 stored.5 next (rw c.in-Some.is at at.invariant.completes);
      callable = subst (TakesEach g.F.FnMut c.store_in.new.f) (sym (drop_left now new i j _ stored.5 next))
          (takes_others g.F.FnMut at.f (drop i now) stored.0 (drop (suc i) now) stored.1 c.store_in.new.f (drop-next now i stored.0 stored.2) stored.3 (rw c.in-Some.is at at.invariant.callable));
      capacity = ap (λ (m : OrdMap g.row.T.Denot). m.capacity) stored.4 ∙ at.invariant.capacity;
    }

pub returns : goal.returns
returns g c =
    let at = c.loop-next in
    let all : length (items at.self) ≤ index_of at.self.blocks at.next = all_passed at.self at.next c.in_default.not-Some in
    let writes = completes_all (CalledAt g.F.FnMut) g.T.IdOrdItemMut.put c.args.f (items c.args.self.now) at.f (items at.self) (index_of at.self.blocks at.next) all at.invariant.completes in
    record {
      writes = writes;
      maps = maps_written (CalledAt g.F.FnMut) g.T.IdOrdItemMut.put c.args.f (items c.args.self.now) (items at.self) writes;
      capacity = at.invariant.capacity;
    }
