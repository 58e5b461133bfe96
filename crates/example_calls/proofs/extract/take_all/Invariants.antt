use Rattle.std.proofs.Common.{◌≡◌, length}
use Rattle.std.specs.Prelude.{vec_capacity}
use Rattle.iddqd_id.specs.Map.{bag}
use Rattle.iddqd_id.specs.Walk.{to_come}
use Rattle.iddqd_id.proofs.CallerLemmas.Extracting.{HasPopped}
use Rattle.example_calls.proofs.extract.take_all.Given as goal

abbrev pub invariant-loop-task : goal.invariant-loop-task
invariant-loop-task l = record {
  popped : HasPopped (bag l.initial.tasks) l.all.items l.tasks l.at;
  room : vec_capacity l.all ≡ length (bag l.initial.tasks);
  capacity : l.tasks.capacity ≡ l.initial.tasks.capacity;
}

abbrev pub decreases-loop-task : goal.decreases-loop-task
decreases-loop-task l = length (to_come l.tasks l.at)
