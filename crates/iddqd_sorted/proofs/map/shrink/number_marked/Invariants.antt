use Rattle.iddqd_sorted.proofs.Shrinking.{IsNumbering}
use Rattle.iddqd_sorted.proofs.map.shrink.number_marked.Given as goal

abbrev pub invariant-loop-at : goal.invariant-loop-at
invariant-loop-at g l = IsNumbering l.slots.slots l.fn.marks l.marks l.at l.from
