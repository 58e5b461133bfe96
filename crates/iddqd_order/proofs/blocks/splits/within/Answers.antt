use Rattle.std.proofs.Common.{◌≡◌, ◌+◌, ◌-◌, ap, arith}
use Rattle.iddqd_order.specs.Row.{start_of}
use Rattle.iddqd_order.proofs.LineLemmas.{start_of-next, start_of-all}
use Rattle.iddqd_order.proofs.PlaceLemmas.{position-past}
use Rattle.iddqd_order.proofs.blocks.splits.within.Goals as goal

pub returns-then-place-count-clause-same : goal.returns-then-place-count-clause-same
returns-then-place-count-clause-same g c =
    let row = c.args.row.now.blocks in
    let last = position-past row c.args.place c.requires.place (omega (arith, c.len-count.ensures.value)) in
    let count = c.len-count.ensures.value in
    let end = start_of-next row (c.len-count.result - 1) (omega (arith, count, c.requires.some)) in
    let back : c.len-count.result - 1 + 1 ≡ c.len-count.result = omega (arith, count, c.requires.some) in
    omega (arith, last, end, ap (start_of row) back, start_of-all row c.len-count.result (omega (arith, count)), c.len_at.ensures.value)
