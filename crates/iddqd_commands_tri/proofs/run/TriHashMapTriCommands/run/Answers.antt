-- Made by tests/widths from crates/iddqd_commands_bi/proofs/run/BiHashMapBiCommands/run/Answers.antt: change that file.
use Rattle.std.proofs.Common.{rules, ◌≡◌, ◌∙◌, List, [], Ok, arith, refl, subst, sym}
use Rattle.std.proofs.lemmas.List.{nil_from_length}
use Rattle.std.specs.Vec.Iter.{into_iter_items}
use Rattle.iddqd_store.specs.Map.State.{state_of}
use Rattle.iddqd_commands.specs.Run.{Run}
use Rattle.iddqd_commands.proofs.Runs.{run_on, run_ends}
use Rattle.iddqd_commands_tri.specs.Step.{Step}
use Rattle.iddqd_commands_tri.proofs.run.TriHashMapTriCommands.run.Goals as goal

pub loop-command-preserved : goal.loop-command-preserved
loop-command-preserved g c =
    let step = Step g.T.TriHashItem g.T.K1.PartialEq.eq g.T.K2.PartialEq.eq g.T.K3.PartialEq.eq g.T.TriHashItemMut.put in
    record {
      completes = λ answer new after rest.
          c.loop-command.invariant.completes answer new after
          (run_on step g.K.TriSink.took (state_of c.loop-command.self) (state_of c.apply.new.self) new c.loop-command.sink c.apply.new.sink after
          (into_iter_items c.loop-command.command-iterator) (into_iter_items c.next.new.self) c.in-Some.command c.apply.result answer c.in_ok-apply.field-0
          (search rules) c.in_ok-apply.was c.apply.ensures.step rest);
      builder = c.apply.ensures.builder ∙ c.loop-command.invariant.builder;
    }

pub returns-in_err-apply-clause-run : goal.returns-in_err-apply-clause-run
returns-in_err-apply-clause-run g c =
    let step = Step g.T.TriHashItem g.T.K1.PartialEq.eq g.T.K2.PartialEq.eq g.T.K3.PartialEq.eq g.T.TriHashItemMut.put in
    c.loop-command.invariant.completes c.from_residual.result (state_of c.apply.new.self) c.apply.new.sink
    (run_ends step g.K.TriSink.took (state_of c.loop-command.self) (state_of c.apply.new.self) c.loop-command.sink c.apply.new.sink
    (into_iter_items c.loop-command.command-iterator) (into_iter_items c.next.new.self) c.in-Some.command c.apply.result c.from_residual.result c.in_err-apply.field-0.0
    (search rules) c.in_err-apply.was (search rules) c.apply.ensures.step)

pub returns-clause-run : goal.returns-clause-run
returns-clause-run g c =
    let step = Step g.T.TriHashItem g.T.K1.PartialEq.eq g.T.K2.PartialEq.eq g.T.K3.PartialEq.eq g.T.TriHashItemMut.put in
    let none_left : into_iter_items c.loop-command.command-iterator ≡ [] = nil_from_length _ (omega (arith, c.in-None.ensures.steps.0, c.loop-command.command-iterator.rest.ok)) in
    let here = state_of c.loop-command.self in
    c.loop-command.invariant.completes (Ok tt) here c.loop-command.sink
    (subst (λ (commands : List _). Run step g.K.TriSink.took here c.loop-command.sink commands (Ok tt) here c.loop-command.sink) (sym none_left) (refl, refl, refl))
