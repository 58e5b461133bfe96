-- Made by tests/widths from crates/iddqd_commands_bi/proofs/run/inserting/apply_extend_unique/Answers.antt: change that file.
use Rattle.std.proofs.Common.{◌≡◌, ◌≤◌, ◌+◌, length, ap, ◌∙◌, sym, subst, List, ◌∷◌, ◌++◌, Global, arith}
use Rattle.std.specs.declared.vec.IntoIter.{IntoIter}
use Rattle.std.specs.Vec.Iter.{into_iter_items, into_iter_steps}
use Rattle.std.proofs.IntoIterSteps.{All-taken}
use Rattle.iddqd_store.specs.Bag.Building.{AddsTo}
use Rattle.iddqd_store.specs.Map.{bag}
use Rattle.iddqd_commands.specs.Reply.{done, extend_refused}
use Rattle.iddqd_store.proofs.CallerLemmas.Asking.{taken-reason}
use Rattle.iddqd_store.proofs.MapLemmas.Extending.{yielded_then}
use Rattle.iddqd_tri.specs.Keys.{ranks}
use Rattle.iddqd_commands_tri.proofs.run.inserting.apply_extend_unique.Goals as goal

pub returns-in-Ok-clause-step : goal.returns-in-Ok-clause-step
returns-in-Ok-clause-step g c =
    let ranks = ranks g.T.TriHashItem g.T.K1.PartialEq.eq g.T.K2.PartialEq.eq g.T.K3.PartialEq.eq in
    let all = c.in-Ok.ensures.all in
    let same = All-taken all.0 all.1 all.3 ∙ all.2.0 in
    let added = subst (λ (xs : List g.row.T.Denot). AddsTo ranks (bag c.args.map.now) (bag c.extend_unique.new.self) xs) same all.4 in
    let same_room = λ (room : length (bag c.args.map.now) + length c.args.items.items ≤ c.args.map.now.capacity). c.in-Ok.ensures.grows_unless.same_room
    (λ it gives. omega (arith, room, ap length gives.0)) in
    (done, (added, c.in-Ok.ensures.sound, (c.in-Ok.ensures.grows_unless.no_less_room, same_room)), c.tell.ensures.fits, c.tell.ensures.took)

pub returns-in-Err-clause-step : goal.returns-in-Err-clause-step
returns-in-Err-clause-step g c =
    let ranks = ranks g.T.TriHashItem g.T.K1.PartialEq.eq g.T.K2.PartialEq.eq g.T.K3.PartialEq.eq in
    let refusal = c.in-Err.refused in
    let refused = c.in-Err.ensures.refused in
    let came : refused.1 ≡ refusal.before.items = refused.5 in
    let split : c.args.items.items ≡ refused.1 ++ refusal.item ∷ into_iter_items refused.2 =
    sym refused.3.0 ∙ yielded_then (into_iter_steps {X = g.row.T.Denot} {Z = Global}) (λ (it : IntoIter g.row.T.Denot Global). into_iter_items it)
    (λ s t x step. step.0) refused.1 refused.0 refused.2 refusal.item refused.4 in
    let whole = subst (λ (xs : List g.row.T.Denot). c.args.items.items ≡ xs ++ refusal.item ∷ into_iter_items refused.2) came split in
    let why = c.in-Err.ensures.reason in
    let told = c.reason-reason.ensures in
    let reason = taken-reason ranks (refusal.before.items ++ bag c.args.map.now) refusal.item c.reason-reason.result
    (λ is none. told.duplicate is (why.taken1 ∙ none.0) (why.taken2 ∙ none.1.0) (why.taken3 ∙ none.1.1.0)) (λ is. let free = told.none_taken is in
    (sym why.taken1 ∙ free.0, (sym why.taken2 ∙ free.1, (sym why.taken3 ∙ free.2, tt)))) in
    let same_room = λ (room : length (bag c.args.map.now) + length c.args.items.items ≤ c.args.map.now.capacity). c.in-Err.ensures.grows_unless.same_room
    (λ it gives. omega (arith, room, ap length gives.0)) in (
      extend_refused c.reason-reason.result refusal.before.items refusal.item,
      (
        into_iter_items refused.2,
        whole,
        c.in-Err.ensures.same_items,
        c.in-Err.ensures.reason.apart,
        reason,
        (c.in-Err.ensures.grows_unless.no_less_room, same_room),
      ),
      c.tell-in-Err.ensures.fits,
      c.tell-in-Err.ensures.took,
    )
