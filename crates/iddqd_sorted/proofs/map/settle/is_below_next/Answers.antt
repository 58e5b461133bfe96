use Rattle.std.proofs.Common.{◌∙◌, ◌<◌, sym, ap, subst, arith}
use Rattle.iddqd_order.specs.Row.{entries_in, position}
use Rattle.iddqd_order.proofs.PlaceLemmas.{position-below}
use Rattle.iddqd_sorted.proofs.Staying.{kept_behind, within_behind, higher_from}
use Rattle.iddqd_sorted.proofs.map.settle.is_below_next.Goals as goal

pub compare-requires : goal.compare-requires
compare-requires g c =
    let xs = entries_in c.args.order.now in
    let blocks = c.args.order.now.blocks in
    let p = position blocks c.args.place in
    let q = position blocks c.in-Some.next in
    let lt = position-below blocks c.args.place c.requires.entry in
    let e = c.entry_in.result.now in
    let above : p < q = omega (arith, c.in-Some.ensures.index) in
    subst (g.C.Compare.MayAsk c.args.sought.now) (kept_behind xs p lt q e above ∙ sym (c.entry_in.ensures.value e)) (c.requires.asks _ e (within_behind xs p lt q above c.entry_in.ensures.within))

pub returns-in-Greater-clause-higher : goal.returns-in-Greater-clause-higher
returns-in-Greater-clause-higher g c = λ _.
    (let xs = entries_in c.args.order.now in
    let blocks = c.args.order.now.blocks in
    let lt = position-below blocks c.args.place c.requires.entry in
    higher_from xs (position blocks c.args.place) lt (g.C.Compare.order c.args.sought.now) c.requires.ordered (position blocks c.in-Some.next) c.in-Some.ensures.index c.entry_in.ensures.within
    (λ d. ap (g.C.Compare.order c.args.sought.now) (sym (c.entry_in.ensures.value d)) ∙ sym c.compare.ensures.value ∙ c.in-Greater.is))

pub returns-in-None-clause-higher : goal.returns-in-None-clause-higher
returns-in-None-clause-higher g c = λ _ j d lt within. absurd (omega (arith, lt, within, c.in-None.ensures.index))
