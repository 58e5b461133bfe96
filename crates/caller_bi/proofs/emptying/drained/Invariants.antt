use Rattle.std.proofs.Common.{◌≡◌, length}
use Rattle.std.specs.Prelude.{vec_capacity}
use Rattle.iddqd_bi.specs.Map.{bag}
use Rattle.iddqd_bi.specs.Walk.{to_come}
use Rattle.iddqd_bi.proofs.CallerLemmas.Extracting.{HasPopped}
use Rattle.caller_bi.proofs.emptying.drained.Given as goal

abbrev pub invariant-loop-item : goal.invariant-loop-item
invariant-loop-item g l = record {
  popped : HasPopped (bag l.initial.map) l.items.items l.map l.at;
  room : vec_capacity l.items ≡ length (bag l.initial.map);
  capacity : l.map.capacity ≡ l.initial.map.capacity;
}

abbrev pub decreases-loop-item : goal.decreases-loop-item
decreases-loop-item g l = length (to_come l.map l.at)
