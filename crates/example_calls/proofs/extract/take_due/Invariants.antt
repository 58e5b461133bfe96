use Rattle.std.proofs.Common.{◌≡◌, length, nat_le}
use Rattle.std.specs.Prelude.{vec_capacity}
use Rattle.iddqd_id.specs.Map.{bag}
use Rattle.iddqd_id.specs.Walk.{to_come}
use Rattle.iddqd_id.proofs.CallerLemmas.Extracting.{HasExtracted}
use Rattle.example_calls.specs.declared.extract.Task.{Task}
use Rattle.example_calls.proofs.extract.take_due.Given as goal

abbrev pub invariant-loop-task : goal.invariant-loop-task
invariant-loop-task l = record {
  extracted : HasExtracted (λ (t : Task). nat_le t.due l.fn.now) (bag l.initial.tasks) l.due.items l.tasks l.at;
  room : vec_capacity l.due ≡ length (bag l.initial.tasks);
}

abbrev pub decreases-loop-task : goal.decreases-loop-task
decreases-loop-task l = length (to_come l.tasks l.at)
