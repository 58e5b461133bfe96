-- Made by tests/widths from crates/iddqd_bi/proofs/map/BiHashMap/extract_from/Answers.antt: change that file.
use Rattle.std.proofs.Common.{◌≡◌, ◌+◌, false, Some, refl, subst}
use Rattle.std.proofs.lemmas.Fn.{called_at}
use Rattle.std.specs.Fn.{CalledAt}
use Rattle.iddqd_store.specs.Map.Extracting.{Extracts}
use Rattle.iddqd_store.specs.Map.Walk.{to_come}
use Rattle.iddqd_store.specs.Slots.Next.{ComesNext}
use Rattle.iddqd_store.proofs.BagLemmas.Calling.{TakesEach-in_turn, takes_others}
use Rattle.iddqd_store.proofs.MapLemmas.Extracting.{extracts-some, rejected-on, rejected-start}
use Rattle.iddqd_tri.proofs.map.TriHashMap.extract_from.Goals as goal

pub loop-slot-init : goal.loop-slot-init
loop-slot-init g c = record {
  rejected = rejected-start (CalledAt g.F.FnMut) c.args.f c.args.self.now c.args.cursor.now;
  callable = TakesEach-in_turn g.F.FnMut c.args.f (to_come c.args.self.now c.args.cursor.now) c.requires;
  same = refl;
}

pub returns-then-f-clause-extracts : goal.returns-then-f-clause-extracts
returns-then-f-clause-extracts g c =
    let at = c.loop-slot in
    let next = subst (λ k. ComesNext at.self.slots k c.in-Some.slot c.item_at.result.now) c.next.ensures (c.in-Some.ensures.comes _ c.item_at.ensures) in
    let same : c.item_at.result.now ≡ c.remove_at.result = cc (c.item_at.ensures, c.remove_at.ensures.value) in
    let here = extracts-some (CalledAt g.F.FnMut) c.args.f at.f c.f.new.self at.self c.remove_at.new.self c.args.cursor.now at.cursor
    c.in-Some.slot c.item_at.result.now next c.remove_at.ensures.slots (called_at g.F.FnMut c.f.ensures c.if-f.true) at.invariant.rejected in
    rw c.pass.ensures
    (subst (λ m. Extracts (CalledAt g.F.FnMut) c.args.f m c.args.cursor.now (Some c.remove_at.result) c.remove_at.new.self (c.in-Some.slot + 1)) at.invariant.same
    (subst (λ x. Extracts (CalledAt g.F.FnMut) c.args.f at.self c.args.cursor.now (Some x) c.remove_at.new.self (c.in-Some.slot + 1)) same here))

pub loop-slot-preserved : goal.loop-slot-preserved
loop-slot-preserved g c =
    let at = c.loop-slot in
    let next = subst (λ k. ComesNext at.self.slots k c.in-Some.slot c.item_at.result.now) c.next.ensures (c.in-Some.ensures.comes _ c.item_at.ensures) in
    let called = called_at g.F.FnMut c.f.ensures c.if-f.false in
    record {
      rejected = rw c.pass.ensures (rejected-on (CalledAt g.F.FnMut) c.args.f at.f c.f.new.self at.self
          c.args.cursor.now at.cursor c.in-Some.slot c.item_at.result.now next called at.invariant.rejected);
      callable = rw c.pass.ensures (takes_others g.F.FnMut at.f (to_come at.self at.cursor) c.item_at.result.now
          (to_come at.self (c.in-Some.slot + 1)) false c.f.new.self next.rest called at.invariant.callable);
      same = at.invariant.same;
    }
