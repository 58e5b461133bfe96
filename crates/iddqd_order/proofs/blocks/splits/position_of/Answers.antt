use Rattle.std.proofs.Common.{◌≡◌, ◌<◌, length, ap, arith}
use Rattle.iddqd_order.specs.Row.{start_of}
use Rattle.iddqd_order.proofs.LineLemmas.{length_parts, start_of-next}
use Rattle.iddqd_order.proofs.blocks.splits.position_of.Goals as goal

pub overflow_add-before : goal.overflow_add-before
overflow_add-before g c =
    let row = c.args.row.now.blocks in
    let within : c.loop-b.b < length row = omega (arith, c.loop-b-test.true, c.requires.place.block) in
    omega (arith, length_parts row c.loop-b.b within, c.len_at-before.ensures.value, c.requires.countable, c.loop-b.invariant)

pub loop-b-preserved : goal.loop-b-preserved
loop-b-preserved g c =
    let row = c.args.row.now.blocks in
    let within : c.loop-b.b < length row = omega (arith, c.loop-b-test.true, c.requires.place.block) in
    omega (arith, start_of-next row c.loop-b.b within, c.len_at-before.ensures.value, c.loop-b.invariant)

pub overflow_add-result : goal.overflow_add-result
overflow_add-result g c =
    let row = c.args.row.now.blocks in
    let at : c.loop-b.b ≡ c.args.place.block = omega (arith, c.loop-b-test.false, c.loop-b.auto.b-end) in
    omega (arith, length_parts row c.args.place.block c.requires.place.block, ap (start_of row) at, c.requires.countable, c.requires.place.offset, c.loop-b.invariant)
