use Rattle.std.proofs.Common.{◌<◌, [], ◌∷◌, ◌++◌, length, sym, ap, ◌∙◌, arith}
use Rattle.std.proofs.lemmas.List.{length-append}
use Rattle.iddqd_order.proofs.IterLemmas.{last_left, All-front, middle_some_last, middle_last}
use Rattle.iddqd_order.specs.Row.{BlockValue, entry_lists, line}
use Rattle.iddqd_order.proofs.iter.IterDoubleEndedIterator.next_back.Goals as goal

pub returns-clause-steps : goal.returns-clause-steps
returns-clause-steps g c =
    let it = c.self.inside in
    let last = c.in-Some-split_last in
    sym c.self.view_is ∙ last_left it.front.now it.blocks.now last.earlier.now it.back.now last.block.now c.split_last-3.result.0.now c.split_last-3.result.1.now c.in_default.ensures.cases last.ensures.cases.0 c.split_last-3.ensures

pub invariant_of-self-2 : goal.invariant_of-self-2
invariant_of-self-2 g c =
    let it = c.self.inside in
    let last = c.in-Some-split_last in
    let parts = last_left it.front.now it.blocks.now last.earlier.now it.back.now last.block.now c.split_last-3.result.0.now c.split_last-3.result.1.now c.in_default.ensures.cases last.ensures.cases.0 c.split_last-3.ensures in
    let left = it.front.now ++ (line (entry_lists last.earlier.now) ++ c.split_last-3.result.1.now) in (
      All-front (λ (r : BlockValue g.row.E.Denot). 0 < length r.entries) it.blocks.now last.earlier.now last.block.now last.ensures.cases.0 c.self.invariant.0,
      omega (arith, ap length parts, length-append left (c.split_last-3.result.0.now ∷ []), c.self.invariant.1),
      rw c.without-self-inside.ensures (middle_last it.middle it.blocks.now last.earlier.now last.block.now c.len.result last.ensures.cases.0 c.len.ensures c.self.invariant.2),
    )

pub without-self-inside-requires : goal.without-self-inside-requires
without-self-inside-requires g c =
    let it = c.self.inside in
    let last = c.in-Some-split_last in
    middle_some_last it.middle it.blocks.now last.earlier.now last.block.now c.len.result last.ensures.cases.0 c.len.ensures c.self.invariant.2

pub returns-clause-goes : goal.returns-clause-goes
returns-clause-goes g c =
    let left = c.self.inside.front.now ++ (line (entry_lists c.in-Some-split_last.earlier.now) ++ c.split_last-3.result.1.now) in
    let steps = ap length (returns-clause-steps g c) ∙ length-append left (c.split_last-3.result.0.now ∷ []) in
    record { on = λ f. (tt, tt, omega (arith, steps)); keeps = tt; rests = λ f. tt }
