use Rattle.std.proofs.Common.{arith}
use Rattle.iddqd_order.proofs.LineLemmas.{start_of-next}
use Rattle.iddqd_order.proofs.blocks.Blocks.entry_from.Goals as goal

pub loop-place-preserved : goal.loop-place-preserved
loop-place-preserved g c =
    let at = c.loop-place in
    let same = rw (← c.self.view_is) at at.invariant.same in
    let next = start_of-next c.self.inside.row.blocks at.place.block (omega (arith, c.len-blocks.ensures.value)) in
    rw (← c.self.view_is) (record { same = omega (arith, next, same, c.len_at-len.ensures.value) })
