-- Made by tests/widths from crates/iddqd_bi/proofs/map/BiHashMap/retain/Answers.antt: change that file.
use Rattle.std.proofs.Common.{refl, sym, subst, ◌∙◌}
use Rattle.std.proofs.lemmas.List.Sorted.{IsPermutation-refl}
use Rattle.std.proofs.lemmas.Fn.{called_at}
use Rattle.std.specs.Fn.{CalledAt}
use Rattle.iddqd_store.specs.Map.{bag}
use Rattle.iddqd_store.proofs.BagLemmas.Calling.{TakesEach, TakesEach-in_turn, takes_others}
use Rattle.iddqd_store.proofs.BagLemmas.Theory.{length-keeps}
use Rattle.iddqd_store.proofs.CallerLemmas.Asking.{kept-filters}
use Rattle.iddqd_store.proofs.SlotLemmas.Next.{past_kept, past_taken, none_behind, same_behind}
use Rattle.iddqd_tri.proofs.map.TriHashMap.retain.Goals as goal

pub loop-slot-preserved-then-not-f : goal.loop-slot-preserved-then-not-f
loop-slot-preserved-then-not-f g c =
    let at = c.loop-slot in
    record {
      completes = rw (c.number-from.ensures.value, c.remove_at.ensures.slots)
          (past_taken (CalledAt g.F.FnMut) _ at.f c.f.new.self _ at.self.slots at.from c.in-Some.slot c.item_at.result.now
          (c.in-Some.ensures.comes _ c.item_at.ensures) (called_at g.F.FnMut c.f.ensures c.if-not-f.true) at.invariant.completes);
      callable = rw (c.number-from.ensures.value, c.remove_at.ensures.slots)
          (subst (λ l. TakesEach g.F.FnMut c.f.new.self l) (sym (same_behind at.self.slots c.in-Some.slot))
          (takes_others g.F.FnMut at.f _ c.item_at.result.now _ _ c.f.new.self
          (c.in-Some.ensures.comes _ c.item_at.ensures).rest (called_at g.F.FnMut c.f.ensures c.if-not-f.true) at.invariant.callable));
      capacity = c.remove_at.ensures.loses.same_room ∙ at.invariant.capacity;
      builder = c.remove_at.ensures.loses.same_builder ∙ at.invariant.builder;
    }

pub loop-slot-preserved : goal.loop-slot-preserved
loop-slot-preserved g c =
    let at = c.loop-slot in
    record {
      completes = rw c.number-from.ensures.value
          (past_kept (CalledAt g.F.FnMut) _ at.f c.f.new.self _ at.self.slots at.from c.in-Some.slot c.item_at.result.now
          (c.in-Some.ensures.comes _ c.item_at.ensures) (called_at g.F.FnMut c.f.ensures c.if-not-f.false) at.invariant.completes);
      callable = rw c.number-from.ensures.value
          (takes_others g.F.FnMut at.f _ c.item_at.result.now _ _ c.f.new.self
          (c.in-Some.ensures.comes _ c.item_at.ensures).rest (called_at g.F.FnMut c.f.ensures c.if-not-f.false) at.invariant.callable);
      capacity = at.invariant.capacity;
      builder = at.invariant.builder;
    }

pub loop-slot-init : goal.loop-slot-init
loop-slot-init g c =
    let callable = TakesEach-in_turn g.F.FnMut c.args.f (bag c.args.self.now) (c.requires (bag c.args.self.now) (IsPermutation-refl (bag c.args.self.now))) in
    record { completes = λ rest h. h; callable = callable; capacity = refl; builder = refl }

pub returns : goal.returns
returns g c =
    let at = c.loop-slot in
    let all = none_behind (CalledAt g.F.FnMut) c.args.f at.f c.args.self.now.slots at.self.slots at.from c.in_default.ensures.end at.invariant.completes in
    record {
      kept = all;
      filters = kept-filters (CalledAt g.F.FnMut) c.args.f (bag c.args.self.now) (bag at.self) all;
      no_more = length-keeps (CalledAt g.F.FnMut) c.args.f (bag c.args.self.now) (bag at.self) all;
      capacity = at.invariant.capacity;
      builder = at.invariant.builder;
    }
