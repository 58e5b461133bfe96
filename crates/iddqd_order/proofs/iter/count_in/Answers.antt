use Rattle.std.proofs.Common.{◌<◌, length, ap, arith}
use Rattle.iddqd_order.specs.Row.{entry_lists}
use Rattle.iddqd_order.proofs.LineLemmas.{start_of-next, length_parts, length-entry_lists, block_read}
use Rattle.iddqd_order.proofs.iter.count_in.Goals as goal

pub overflow_add-count : goal.overflow_add-count
overflow_add-count g c =
    let values = c.args.blocks.now in
    let i = c.loop-block.block-index in
    let within : i < length (entry_lists values) = omega (arith, length-entry_lists values) in
    let read = ap length (block_read values i c.block-item.result (omega arith) c.block-item.is) in
    omega (arith, length_parts (entry_lists values) i within, read, c.loop-block.invariant, c.len-count.ensures, c.requires)

pub loop-block-preserved : goal.loop-block-preserved
loop-block-preserved g c =
    let values = c.args.blocks.now in
    let i = c.loop-block.block-index in
    let within : i < length (entry_lists values) = omega (arith, length-entry_lists values) in
    let read = ap length (block_read values i c.block-item.result (omega arith) c.block-item.is) in
    omega (arith, start_of-next (entry_lists values) i within, read, c.loop-block.invariant, c.len-count.ensures)
