use Rattle.std.proofs.Common.{◌∙◌, ◌<◌, sym, ap, subst, arith}
use Rattle.iddqd_order.specs.Row.{entries_in, position}
use Rattle.iddqd_order.proofs.PlaceLemmas.{position-below}
use Rattle.iddqd_sorted.proofs.Staying.{kept_before, within_before, lower_to}
use Rattle.iddqd_sorted.proofs.map.settle.is_above_previous.Goals as goal

pub compare-requires : goal.compare-requires
compare-requires g c =
    let xs = entries_in c.args.order.now in
    let blocks = c.args.order.now.blocks in
    let p = position blocks c.args.place in
    let q = position blocks c.in-Some.previous in
    let lt = position-below blocks c.args.place c.requires.entry in
    let e = c.entry_in.result.now in
    let below : q < p = omega (arith, c.in-Some.ensures.index) in
    subst (g.C.Compare.MayAsk c.args.sought.now) (kept_before xs p lt q e below ∙ sym (c.entry_in.ensures.value e)) (c.requires.asks q e (within_before xs p lt q below))

pub returns-in-Less-clause-lower : goal.returns-in-Less-clause-lower
returns-in-Less-clause-lower g c = λ _.
    (let xs = entries_in c.args.order.now in
    let blocks = c.args.order.now.blocks in
    let lt = position-below blocks c.args.place c.requires.entry in
    lower_to xs (position blocks c.args.place) lt (g.C.Compare.order c.args.sought.now) c.requires.ordered (position blocks c.in-Some.previous) c.in-Some.ensures.index
    (λ d. ap (g.C.Compare.order c.args.sought.now) (sym (c.entry_in.ensures.value d)) ∙ sym c.compare.ensures.value ∙ c.in-Less.is))

pub returns-in-None-clause-lower : goal.returns-in-None-clause-lower
returns-in-None-clause-lower g c = λ _ j d lt. absurd (omega (arith, lt, c.in-None.ensures.index))
