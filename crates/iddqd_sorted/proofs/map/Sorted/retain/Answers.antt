use Rattle.std.proofs.Common.{refl, ap, arith, length, ◌∙◌, ◌≤◌}
use Rattle.std.proofs.lemmas.Fn.{called_at, filter_same}
use Rattle.std.proofs.lemmas.List.Edits.{length-remove}
use Rattle.std.specs.Fn.{CalledAt}
use Rattle.iddqd_store.proofs.BagLemmas.Calling.{TakesEach-in_turn, takes_first, takes_others}
use Rattle.iddqd_sorted.specs.Items.{items}
use Rattle.iddqd_order.specs.Row.{position, index_of}
use Rattle.iddqd_order.proofs.RetainLemmas.{past_kept, past_taken, none_behind, drop-removed}
use Rattle.iddqd_sorted.proofs.map.Sorted.retain.Goals as goal

pub loop-next-init : goal.loop-next-init
loop-next-init g c =
    let first = c.first_place-next.ensures in
    record {
      entry = first.entry;
      completes = rw first.index (λ rest h. h);
      callable = rw first.index (TakesEach-in_turn g.F.FnMut c.args.f (items c.args.self.now) c.requires);
      counted = first.counted;
      shorter = omega arith;
      capacity = refl;
      builder = refl;
    }

pub f-requires : goal.f-requires
f-requires g c =
    let at = c.loop-next in
    takes_first g.F.FnMut at.f _ c.item_from.result.now _ c.item_from.ensures.first (rw c.in-Some.is at at.invariant.callable) c.item_from.result refl

pub loop-next-preserved-then-f : goal.loop-next-preserved-then-f
loop-next-preserved-then-f g c =
    let at = c.loop-next in
    let here = c.item_from.ensures in
    let called = called_at g.F.FnMut c.f.ensures c.if-f.true in
    record {
      entry = c.next_place-next.ensures.entry;
      completes = rw c.next_place-next.ensures.index
          (past_kept (CalledAt g.F.FnMut) _ at.f c.f.new.self _ (items at.self) _ c.item_from.result.now here.within here.item called (rw c.in-Some.is at at.invariant.completes));
      callable = rw c.next_place-next.ensures.index
          (takes_others g.F.FnMut at.f _ c.item_from.result.now _ _ c.f.new.self here.first called (rw c.in-Some.is at at.invariant.callable));
      counted = c.next_place-next.ensures.counted;
      shorter = at.invariant.shorter;
      capacity = at.invariant.capacity;
      builder = at.invariant.builder;
    }

pub loop-next-preserved : goal.loop-next-preserved
loop-next-preserved g c =
    let at = c.loop-next in
    let here = c.item_from.ensures in
    let gone = c.remove_in-item.ensures in
    let after = c.place_or_next-next.ensures in
    let index = after.index ∙ gone.index in
    let place = position at.self.blocks c.in-Some.place in
    let called = called_at g.F.FnMut c.f.ensures c.if-f.false in
    record {
      entry = after.entry;
      completes = rw (index, gone.rest)
          (past_taken (CalledAt g.F.FnMut) _ at.f c.f.new.self _ (items at.self) _ c.item_from.result.now here.within here.item called (rw c.in-Some.is at at.invariant.completes));
      callable = rw (index, gone.rest, drop-removed (items at.self) place)
          (takes_others g.F.FnMut at.f _ c.item_from.result.now _ _ c.f.new.self here.first called (rw c.in-Some.is at at.invariant.callable));
      counted = after.counted;
      shorter = omega (arith, ap length gone.rest, length-remove (items at.self) place here.within, at.invariant.shorter);
      capacity = gone.kept.0 ∙ at.invariant.capacity;
      builder = gone.kept.1 ∙ at.invariant.builder;
    }

pub returns-clause-kept : goal.returns-clause-kept
returns-clause-kept g c =
    let at = c.loop-next in
    let past : length (items at.self) ≤ index_of at.self.blocks at.next = rw c.in_default.is (omega (arith, at.invariant.counted)) in
    none_behind (CalledAt g.F.FnMut) c.args.f at.f (items c.args.self.now) (items at.self) _ past at.invariant.completes

pub returns-clause-filters : goal.returns-clause-filters
returns-clause-filters g c = λ test law.
    let at = c.loop-next in
    let past : length (items at.self) ≤ index_of at.self.blocks at.next = rw c.in_default.is (omega (arith, at.invariant.counted)) in
    let kept = none_behind (CalledAt g.F.FnMut) c.args.f at.f (items c.args.self.now) (items at.self) _ past at.invariant.completes in
    filter_same (CalledAt g.F.FnMut) test c.args.f (λ x b h called. let told = law x b h called in (told.1, told.0)) (items c.args.self.now) (items at.self) kept
