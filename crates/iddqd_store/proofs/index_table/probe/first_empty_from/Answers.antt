use Rattle.std.proofs.Common.{arith, ℕ, ◌≡◌, ◌+◌, ◌-◌, length, None}
use Rattle.std.specs.Prelude.{◌≢◌, nat_lt, if◌then◌else◌}
use Rattle.iddqd_store.specs.Table.Ring.{cell, gap}
use Rattle.iddqd_store.proofs.TableLemmas.Search.{walk_more, walk_first, walk_gap, none_from_test, some_from_test}
use Rattle.iddqd_store.proofs.index_table.probe.first_empty_from.Goals as goal

pub loop-at-preserved : goal.loop-at-preserved
loop-at-preserved c =
    let row = c.args.cells.now in
    let i = c.loop-at.invariant in
    let some : cell row c.loop-at.at ≢ None = some_from_test c.cell_at.result _ c.is_some.result c.cell_at.ensures.value c.is_some.ensures c.loop-at-test.true in
    let e : c.after-at.result ≡ (if nat_lt (c.loop-at.at + 1) (length row) then c.loop-at.at + 1 else 0) = rw c.len-count.ensures at c.after-at.ensures in
    record {
      probed = omega (arith, i.probed, c.cell_at.ensures.probe);
      walk = walk_more row c.args.from c.loop-at.at (c.loop-at.meter - c.args.meter.now) c.requires.table c.requires.from i.walk some
          c.after-at.result (c.cell_at.new.meter - c.args.meter.now) e (omega (arith, i.probed, c.cell_at.ensures.probe));
    }

pub returns-clause-first_empty : goal.returns-clause-first_empty
returns-clause-first_empty c =
    walk_first c.args.cells.now c.args.from c.loop-at.at (c.loop-at.meter - c.args.meter.now) c.requires.from c.loop-at.invariant.walk
    (none_from_test c.cell_at.result _ c.is_some.result c.cell_at.ensures.value c.is_some.ensures c.loop-at-test.false)

pub returns-clause-probes : goal.returns-clause-probes
returns-clause-probes c =
    let row = c.args.cells.now in
    let s : ℕ = c.loop-at.meter - c.args.meter.now in
    let e : gap (length row) c.args.from c.loop-at.at ≡ s = walk_gap row c.args.from c.loop-at.at s c.requires.from c.loop-at.invariant.walk in
    omega (arith, e, c.loop-at.invariant.probed, c.cell_at.ensures.probe)
