use Rattle.std.proofs.Common.{arith, nat_le, rules, ◌∙◌}
use Rattle.iddqd_id.specs.Map.{bag}
use Rattle.iddqd_id.proofs.CallerLemmas.Extracting.{extracted-end, extracted-fewer, extracted-on, extracted-start}
use Rattle.example_calls.specs.declared.extract.Task.{Task}
use Rattle.example_calls.proofs.extract.take_due.Goals as goal

pub loop-task-init : goal.loop-task-init
loop-task-init c = record {
  extracted = rw (c.new-at.ensures, c.in_ok-due.ensures.items) (extracted-start (λ (t : Task). nat_le t.due c.args.now) c.args.tasks.now);
  room = c.in_ok-due.ensures.exact ∙ c.len.ensures.value;
}

-- the closure returns the same for a task whenever it is called
pub push_reserved-requires : goal.push_reserved-requires
push_reserved-requires c =
    let at = c.loop-task in
    let test = λ (t : Task). nat_le t.due c.args.now in
    let on = extracted-on test _ _ (λ x b f' k. search rules) at.tasks c.extract_from.new.self at.at c.extract_from.new.cursor
    (bag c.args.tasks.now) at.due.items c.in-Some.task c.in-Some.ensures.extracts at.invariant.extracted in
    omega (arith, at.due.ok.0, at.invariant.room, extracted-fewer test c.extract_from.new.self c.extract_from.new.cursor (bag c.args.tasks.now) at.due.items c.in-Some.task on)

pub loop-task-preserved : goal.loop-task-preserved
loop-task-preserved c =
    let at = c.loop-task in
    record {
      extracted = rw c.push_reserved.ensures.items
          (extracted-on (λ (t : Task). nat_le t.due c.args.now) _ _ (λ x b f' k. search rules) at.tasks c.extract_from.new.self at.at
          c.extract_from.new.cursor (bag c.args.tasks.now) at.due.items c.in-Some.task c.in-Some.ensures.extracts at.invariant.extracted);
      room = c.push_reserved.ensures.capacity ∙ at.invariant.room;
    }

-- none is left
pub returns-clause-taken : goal.returns-clause-taken
returns-clause-taken c =
    let at = c.loop-task in
    (extracted-end (λ (t : Task). nat_le t.due c.args.now) _ _ (λ x b f' k. search rules) at.tasks c.extract_from.new.self at.at
    c.extract_from.new.cursor (bag c.args.tasks.now) at.due.items c.in_default.ensures.extracts at.invariant.extracted).0

pub returns-clause-items : goal.returns-clause-items
returns-clause-items c =
    let at = c.loop-task in
    (extracted-end (λ (t : Task). nat_le t.due c.args.now) _ _ (λ x b f' k. search rules) at.tasks c.extract_from.new.self at.at
    c.extract_from.new.cursor (bag c.args.tasks.now) at.due.items c.in_default.ensures.extracts at.invariant.extracted).1
