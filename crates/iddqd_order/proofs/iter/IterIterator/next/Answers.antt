use Rattle.std.proofs.Common.{◌<◌, length, ap, arith}
use Rattle.iddqd_order.specs.Row.{BlockValue}
use Rattle.std.proofs.lemmas.List.Elements.{All-rest}
use Rattle.iddqd_order.proofs.IterLemmas.{first_left, middle_some, middle_first}
use Rattle.iddqd_order.proofs.iter.IterIterator.next.Goals as goal

pub without-self-inside-requires : goal.without-self-inside-requires
without-self-inside-requires g c =
    let it = c.self.inside in
    let first = c.in-Some-split_first in
    middle_some it.middle it.blocks.now first.later.now first.block.now c.len.result first.ensures.cases.0 c.len.ensures c.self.invariant.2

pub invariant_of-self-2 : goal.invariant_of-self-2
invariant_of-self-2 g c =
    let it = c.self.inside in
    let first = c.in-Some-split_first in
    let parts = first_left it.front.now it.blocks.now first.later.now it.back.now first.block.now c.split_first-3.result.0.now c.split_first-3.result.1.now c.in_default.ensures.cases first.ensures.cases.0 c.split_first-3.ensures in (
      All-rest (λ (r : BlockValue g.row.E.Denot). 0 < length r.entries) first.block.now first.later.now it.blocks.now first.ensures.cases.0 c.self.invariant.0,
      omega (arith, ap length parts, c.self.invariant.1),
      rw c.without-self-inside.ensures (middle_first it.middle it.blocks.now first.later.now first.block.now c.len.result first.ensures.cases.0 c.len.ensures c.self.invariant.2),
    )
