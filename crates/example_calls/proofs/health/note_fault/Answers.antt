use Rattle.std.specs.Prelude.{Result, Ok, Err, OnErr, ◌++◌, ◌∷◌, []}
use Rattle.std.proofs.Common.{ap, ◌∙◌}
use Rattle.example_calls.specs.declared.health.Health.{Health}
use Rattle.example_calls.proofs.health.note_fault.Goals as goal

on_err : {A E P : Type 0} (r : Result A E) → P → OnErr r P
on_err (Ok x) p = tt
on_err (Err e) p = p

pub returns-in_err-push-in-Some-clause-out_of_memory :
    goal.returns-in_err-push-in-Some-clause-out_of_memory
returns-in_err-push-in-Some-clause-out_of_memory c =
    let it = c.in-Some.ensures.value in
    let h : Health = record { degrees = c.in-Some.health.now.degrees; faults = c.push.new.self } in
    let same = c.in_err-push-in-Some.ensures.items ∙ ap (λ (h : Health). h.faults.items) it.2 in
    on_err c.from_residual.result (it.0, h, it.1, ap (λ (h : Health). h.degrees) it.2, same, c.in-Some.ensures.swaps it.0 h it.1)

pub returns-in_ok-push-in-Some-clause-noted : goal.returns-in_ok-push-in-Some-clause-noted
returns-in_ok-push-in-Some-clause-noted c = λ yes.
    let it = c.in-Some.ensures.value in
    let h : Health = record { degrees = c.in-Some.health.now.degrees; faults = c.push.new.self } in
    let more = c.in_ok-push-in-Some.ensures.items ∙ ap (λ (h : Health). h.faults.items ++ c.args.fault ∷ []) it.2 in
    (it.0, h, it.1, ap (λ (h : Health). h.degrees) it.2, more, c.in-Some.ensures.swaps it.0 h it.1)
