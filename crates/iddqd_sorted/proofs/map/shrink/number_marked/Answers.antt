use Rattle.std.proofs.Common.{arith}
use Rattle.iddqd_sorted.proofs.Shrinking.{IsNumbering-none, IsNumbering-skip, IsNumbering-more}
use Rattle.iddqd_sorted.proofs.map.shrink.number_marked.Goals as goal
use Rattle.iddqd_sorted.proofs.map.shrink.number_marked.Goals.{then-marks-at-eq1+in-Some, else-marks-at-eq1}

-- some item is left for each mark of 1
pub unreachable-requires : goal.unreachable-requires
unreachable-requires g c =
    let at = c.loop-at in
    IsNumbering-none c.args.slots.now.slots c.args.marks.now at.marks at.at at.from at.invariant c.loop-at-test.true c.if-marks-at-eq1.true c.requires c.in_default.ensures.next

pub loop-at-preserved : goal.loop-at-preserved
loop-at-preserved g c =
    let at = c.loop-at in
    let slots = c.args.slots.now.slots in
    elim c.if-marks-at-eq1.branch [
      | then-marks-at-eq1+in-Some w ↦
          rw (w.marks-is, w.from-is, w.number.ensures.value, w.number-from.ensures.value)
          (IsNumbering-more slots c.args.marks.now at.marks at.at at.from at.invariant c.loop-at-test.true w.if-marks-at-eq1.true w.in-Some.slot at.auto.marks w.in-Some.ensures.next
          (omega (arith, w.number.ensures.below, w.number.ensures.value)))
      | else-marks-at-eq1 w ↦
          rw (w.marks-is, w.from-is) (IsNumbering-skip slots c.args.marks.now at.marks at.at at.from at.invariant c.loop-at-test.true w.if-marks-at-eq1.false)
    ]
