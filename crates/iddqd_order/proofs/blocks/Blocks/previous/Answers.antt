use Rattle.std.proofs.Common.{◌≡◌, ◌+◌, ◌-◌, ap, arith}
use Rattle.iddqd_order.specs.Row.{start_of}
use Rattle.iddqd_order.proofs.LineLemmas.{start_of-next}
use Rattle.iddqd_order.proofs.blocks.Blocks.previous.Goals as goal

pub returns-clause-index : goal.returns-clause-index
returns-clause-index g c =
    let row = c.self.inside.row.blocks in
    let place = rw (← c.self.view_is) at c.requires in
    let b = c.args.place.block in
    let back : b - 1 + 1 ≡ b = omega arith in
    rw (← c.self.view_is) (omega (arith, start_of-next row (b - 1) (omega (arith, place.block)), ap (start_of row) back, c.len_at.ensures.value, c.len_at.ensures.some))
