use Rattle.std.proofs.Common.{arith, ◌≡◌, ◌%◌, length, sym, ◌∙◌}
use Rattle.iddqd_store.proofs.TableLemmas.Closing.{closed_stretch, closed_table, closing_first, closing_moves, closing_stays}
use Rattle.iddqd_store.proofs.index_table.probe.close_up.Goals as goal
use Rattle.iddqd_store.proofs.index_table.probe.close_up.Goals.{then-far-way, else-far-way}

pub loop-pair-init : goal.loop-pair-init
loop-pair-init c = closing_first c.requires.table c.requires.pair c.requires.way (rw c.len-count.ensures at c.after-at.ensures)

pub after-at-requires-in-Some-clause-size : goal.after-at-requires-in-Some-clause-size
after-at-requires-in-Some-clause-size c = rw c.len-count.ensures c.requires.table.size

pub loop-pair-preserved : goal.loop-pair-preserved
loop-pair-preserved c =
    let i = c.loop-pair.invariant in
    let is = sym c.cell_at.ensures.value ∙ c.in-Some.is in
    let next = rw c.len-count.ensures at c.after-at-in-Some.ensures in
    let home : c.home_of.result ≡ c.in-Some.pair.0 % length c.args.cells.now = rw c.len-count.ensures at c.home_of.ensures in
    let way = rw (c.len-count.ensures, home) at c.steps-way.ensures in
    elim c.if-far-way.branch [
      | then-far-way w ↦ rw (w.far-is, w.hole-is, c.write.ensures) (closing_moves c.requires.table i is c.cell_at.ensures.probe next way w.if-far-way.true)
      | else-far-way w ↦ rw (w.far-is, w.hole-is, c.write.ensures) (closing_stays c.requires.table i is c.cell_at.ensures.probe next way w.if-far-way.false)
    ]

pub returns-clause-table : goal.returns-clause-table
returns-clause-table c = rw c.empty.ensures (closed_table c.requires.table c.loop-pair.invariant (sym c.cell_at.ensures.value ∙ c.in_default.is) c.requires.pair)

pub returns-clause-probes : goal.returns-clause-probes
returns-clause-probes c =
    let i = c.loop-pair.invariant in
    let end = closed_stretch c.requires.table i (sym c.cell_at.ensures.value ∙ c.in_default.is) in
    omega (arith, end, i.probed, c.cell_at.ensures.probe)
