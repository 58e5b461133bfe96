use Rattle.std.proofs.Common.{◌≡◌, length}
use Rattle.std.specs.Cmp.Lexicographic.{pointwise}
use Rattle.iddqd_sorted.proofs.map.compare.SortedPartialEq.eq.Given as goal

abbrev pub invariant-loop-item : goal.invariant-loop-item
invariant-loop-item g l = (length l.left ≡ length l.right) × (pointwise g.M.Item.PartialEq.eq l.left l.right ≡ pointwise g.M.Item.PartialEq.eq l.initial.left l.initial.right)

abbrev pub decreases-loop-item : goal.decreases-loop-item
decreases-loop-item g l = length l.left
