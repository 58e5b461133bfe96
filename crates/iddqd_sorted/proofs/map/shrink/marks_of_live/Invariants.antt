use Rattle.std.proofs.Common.{◌≡◌, vec_capacity, take}
use Rattle.std.specs.Prelude.{map}
use Rattle.iddqd_sorted.specs.Renumbered.{mark_of}
use Rattle.iddqd_sorted.proofs.map.shrink.marks_of_live.Given as goal

abbrev pub invariant-loop-number : goal.invariant-loop-number
invariant-loop-number g l = record {
  marks : l.marks.items ≡ map mark_of (take l.number l.fn.slots.slots);
  capacity : vec_capacity l.marks ≡ l.count;
}
