-- Made by tests/widths from crates/iddqd_bi/proofs/map/BiHashMap/retain_mut/Answers.antt: change that file.
use Rattle.std.proofs.Common.{refl, ap, ◌∙◌, ◌+◌}
use Rattle.std.proofs.lemmas.List.Sorted.{IsPermutation-refl}
use Rattle.std.specs.Fn.{CalledAt}
use Rattle.iddqd_store.specs.Map.{bag}
use Rattle.iddqd_store.specs.Map.Written.{map_with}
use Rattle.iddqd_store.specs.Slots.{contents}
use Rattle.iddqd_store.proofs.BagLemmas.Calling.{TakesEach-in_turn, takes_first}
use Rattle.iddqd_store.proofs.BagLemmas.Theory.{length-rewrites_all}
use Rattle.iddqd_store.proofs.CallerLemmas.Updates.{rewritten-filter_maps}
use Rattle.iddqd_store.proofs.MapLemmas.Updating.{all_rewritten, rewritten_kept, rewritten_taken}
use Rattle.iddqd_store.proofs.MapLemmas.Walking.{passes}
use Rattle.iddqd_store.proofs.MapLemmas.Calls.{takes_behind, takes_passed}
use Rattle.iddqd_id.proofs.map.IdHashMap.retain_mut.Goals as goal

pub loop-slot-preserved : goal.loop-slot-preserved
loop-slot-preserved g c =
    let at = c.loop-slot in
    let stored = c.store_some_at.ensures.stored c.if-not-store_some_at.false in
    let next = passes at.self at.from c.in-Some.slot stored.0 (c.in-Some.ensures.comes stored.0 stored.2) in
    record {
      completes = rw c.number-from.ensures.value
          (rewritten_kept (CalledAt g.F.FnMut) g.T.IdHashItemMut.put c.args.f at.f c.store_some_at.new.f (contents c.args.self.now.slots) at.self at.from (c.in-Some.slot + 1)
          stored.0 stored.1 (λ w. map_with at.self c.in-Some.slot w) c.store_some_at.new.self stored.4 next stored.3 at.invariant.completes);
      callable = rw c.number-from.ensures.value (takes_passed g.F.FnMut (λ y. g.T.IdHashItemMut.put y stored.1) stored.4 next stored.3 at.invariant.callable);
      capacity = ap (λ m. m.capacity) stored.4 ∙ at.invariant.capacity;
      builder = ap (λ m. m.builder) stored.4 ∙ at.invariant.builder;
    }

pub loop-slot-preserved-then-not-store_some_at : goal.loop-slot-preserved-then-not-store_some_at
loop-slot-preserved-then-not-store_some_at g c =
    let at = c.loop-slot in
    let none = c.store_some_at.ensures.unchanged c.if-not-store_some_at.true in
    let next = c.in-Some.ensures.comes none.0 none.1 in
    record {
      completes = rw c.number-from.ensures.value
          (rewritten_taken (CalledAt g.F.FnMut) g.T.IdHashItemMut.put c.args.f at.f c.store_some_at.new.f (contents c.args.self.now.slots) at.self c.remove_at.new.self at.from c.in-Some.slot
          none.0 next (rw (← none.3) c.remove_at.ensures.slots) none.2 at.invariant.completes);
      callable = rw (c.number-from.ensures.value, c.remove_at.ensures.slots, none.3) (takes_behind g.F.FnMut at.self.slots next none.2 at.invariant.callable);
      capacity = c.remove_at.ensures.loses.same_room ∙ ap (λ m. m.capacity) none.3 ∙ at.invariant.capacity;
      builder = c.remove_at.ensures.loses.same_builder ∙ ap (λ m. m.builder) none.3 ∙ at.invariant.builder;
    }

pub store_some_at-requires-clause-callable : goal.store_some_at-requires-clause-callable
store_some_at-requires-clause-callable g c = λ x is. takes_first g.F.FnMut c.loop-slot.f _ x _ (c.in-Some.ensures.comes x is).rest c.loop-slot.invariant.callable

pub loop-slot-init : goal.loop-slot-init
loop-slot-init g c =
    let callable = TakesEach-in_turn g.F.FnMut c.args.f (bag c.args.self.now) (c.requires (bag c.args.self.now) (IsPermutation-refl (bag c.args.self.now))) in
    record { completes = λ rest h. h; callable = callable; capacity = refl; builder = refl }

pub returns : goal.returns
returns g c =
    let at = c.loop-slot in
    let all = all_rewritten (CalledAt g.F.FnMut) g.T.IdHashItemMut.put c.args.f at.f c.args.self.now at.self at.from c.in_default.ensures.end at.invariant.completes in
    let maps = rewritten-filter_maps (CalledAt g.F.FnMut) g.T.IdHashItemMut.put c.args.f (bag c.args.self.now) (bag at.self) all in
    let fewer = length-rewrites_all (CalledAt g.F.FnMut) g.T.IdHashItemMut.put c.args.f (bag c.args.self.now) (bag at.self) all in
    record { rewrites = all; filter_maps = maps; no_more = fewer; capacity = at.invariant.capacity; builder = at.invariant.builder }
