use Rattle.std.proofs.Common.{◌≡◌, ◌+◌, ◌<◌, length, arith}
use Rattle.iddqd_order.proofs.LineLemmas.{start_of-next, start_of-all}
use Rattle.iddqd_order.proofs.blocks.splits.place_of.Goals as goal

pub loop-place-preserved : goal.loop-place-preserved
loop-place-preserved g c =
    let within : c.loop-place.place.block < length c.args.row.now.blocks = omega (arith, c.loop-place-test.true, c.len-last.ensures.value) in
    let next = start_of-next c.args.row.now.blocks c.loop-place.place.block within in
    record {
      within = omega (arith, c.loop-place-test.true);
      same = omega (arith, next, c.len_at-len.ensures.value, c.if-place-len.false, c.loop-place.invariant.same);
    }

pub returns-clause-within : goal.returns-clause-within
returns-clause-within g c =
    let row = c.args.row.now.blocks in
    let at = c.loop-place.place.block in
    let last : at + 1 ≡ length row = omega (arith, c.loop-place-test.false, c.loop-place.invariant.within, c.len-last.ensures.value, c.requires.some) in
    record {
      block = omega (arith, last);
      offset = omega (arith, start_of-next row at (omega (arith, last)), start_of-all row (at + 1) (omega (arith, last)), c.loop-place.invariant.same, c.requires.within);
    }
