-- Made by tests/widths from crates/iddqd_commands_bi/proofs/run/inserting/apply_extend/Answers.antt: change that file.
use Rattle.std.proofs.Common.{◌≡◌, ◌≤◌, ◌+◌, length, ap, ◌∙◌, sym, rules, subst, List, ◌∷◌, ◌++◌, Global, arith}
use Rattle.std.specs.declared.vec.IntoIter.{IntoIter}
use Rattle.std.specs.Vec.Iter.{into_iter_items, into_iter_steps}
use Rattle.std.proofs.IntoIterSteps.{All-taken}
use Rattle.iddqd_store.specs.Map.{bag, IsFullFor}
use Rattle.iddqd_commands.specs.Reply.{done, memory}
use Rattle.iddqd_store.specs.Map.State.{ExtendsTo, state_of}
use Rattle.iddqd_store.proofs.MapLemmas.Extending.{yielded_then}
use Rattle.iddqd_tri.specs.Keys.{ranks}
use Rattle.iddqd_commands_tri.proofs.run.inserting.apply_extend.Goals as goal

pub returns-in-Ok-clause-step : goal.returns-in-Ok-clause-step
returns-in-Ok-clause-step g c =
    let ranks = ranks g.T.TriHashItem g.T.K1.PartialEq.eq g.T.K2.PartialEq.eq g.T.K3.PartialEq.eq in
    let all = c.in-Ok.ensures.all in
    let same = All-taken all.0 all.1 all.3 ∙ all.2.0 in
    let extends = subst (λ (xs : List g.row.T.Denot). ExtendsTo ranks (state_of c.args.map.now) xs (state_of c.extend.new.self)) same all.4 in
    let same_room = λ (room : length (bag c.args.map.now) + length c.args.items.items ≤ c.args.map.now.capacity). c.in-Ok.ensures.grows_unless.same_room
    (λ it gives. omega (arith, room, ap length gives.0)) in
    (done, (extends, same_room), c.tell.ensures.fits, c.tell.ensures.took)

pub returns-in-Err-clause-step : goal.returns-in-Err-clause-step
returns-in-Err-clause-step g c =
    let ranks = ranks g.T.TriHashItem g.T.K1.PartialEq.eq g.T.K2.PartialEq.eq g.T.K3.PartialEq.eq in
    let same : c.in-Err.field-0.value ≡ c.in-Err.value = cc in
    let refused = c.in-Err.ensures.refused in
    let split : c.args.items.items ≡ refused.1 ++ c.in-Err.field-0.value ∷ into_iter_items refused.2 =
    sym refused.3.0 ∙ yielded_then (into_iter_steps {X = g.row.T.Denot} {Z = Global}) (λ (it : IntoIter g.row.T.Denot Global). into_iter_items it)
    (λ s t x step. step.0) refused.1 refused.0 refused.2 c.in-Err.field-0.value refused.4 in
    let whole : c.args.items.items ≡ refused.1 ++ c.in-Err.value ∷ into_iter_items refused.2 =
    subst (λ (x : g.row.T.Denot). c.args.items.items ≡ refused.1 ++ x ∷ into_iter_items refused.2) same split in
    let full : IsFullFor ranks c.extend.new.self c.in-Err.value =
    subst (λ (x : g.row.T.Denot). IsFullFor ranks c.extend.new.self x) same c.in-Err.ensures.full in
    (memory c.in-Err.value, (refused.1, into_iter_items refused.2, whole, refused.5, full.free, full.full), search rules, search rules)
