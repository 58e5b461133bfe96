use Rattle.std.proofs.Common.{arith, ℕ, ◌≡◌, ◌+◌, ◌-◌, ◌%◌, length, ◌∙◌, Some, None, sym, ap}
use Rattle.std.proofs.lemmas.Bool.{eq-eqb, both_ways}
use Rattle.std.specs.Prelude.{◌≢◌, nat_lt, if◌then◌else◌}
use Rattle.iddqd_store.specs.Table.Ring.{cell}
use Rattle.iddqd_store.proofs.TableLemmas.Search.{walk_more, unmet_more, seek_on}
use Rattle.iddqd_store.proofs.index_table.probe.seek.Goals as goal
use Rattle.iddqd_store.proofs.index_table.probe.seek.Goals.{else-eq-via-then-eq+else-stored-hash, else-eq-via-else-eq}

pub loop-pair-preserved : goal.loop-pair-preserved
loop-pair-preserved c =
    let row = c.args.cells.now in
    let home = c.args.hash % length row in
    let i = c.loop-pair.invariant in
    let s : ℕ = c.loop-pair.meter - c.args.meter.now in
    let t : ℕ = c.cell_at.new.meter - c.args.meter.now in
    let more : t ≡ s + 1 = omega (arith, i.probed, c.cell_at.ensures.probe) in
    let at_x : cell row c.loop-pair.at ≡ Some c.in-Some.pair = sym c.cell_at.ensures.value ∙ c.in-Some.is in
    let some : cell row c.loop-pair.at ≢ None = λ e. cc (e, at_x) in
    let e : c.after-at.result ≡ (if nat_lt (c.loop-pair.at + 1) (length row) then c.loop-pair.at + 1 else 0) = rw c.len-count.ensures at c.after-at.ensures in
    let other : cell row c.loop-pair.at ≢ Some (c.args.hash, c.args.index) = λ z.
    let same : c.in-Some.pair ≡ (c.args.hash, c.args.index) = cc (z, at_x) in
    elim c.else-eq.branch [
      | else-eq-via-then-eq+else-stored-hash w ↦ absurd (w.if-stored-hash.false (ap (λ (p : ℕ × ℕ). p.0) same))
      | else-eq-via-else-eq w ↦ both_ways c.eq.result w.if-eq.false (c.eq.ensures ∙ eq-eqb c.in-Some.pair.1 c.args.index (ap (λ (p : ℕ × ℕ). p.1) same))
    ] in
    record {
      probed = omega (arith, i.probed, c.cell_at.ensures.probe);
      walk = walk_more row home c.loop-pair.at s c.requires.table (omega arith) i.walk some c.after-at.result t e more;
      unmet = unmet_more row home c.loop-pair.at s t (c.args.hash, c.args.index) more i.walk i.unmet other;
    }

-- the first empty cell is after the pair
pub unreachable-requires : goal.unreachable-requires
unreachable-requires c =
    let row = c.args.cells.now in
    let i = c.loop-pair.invariant in
    let s : ℕ = c.loop-pair.meter - c.args.meter.now in
    seek_on row c.args.hash c.loop-pair.at s c.args.index c.requires.table i.walk c.requires.there i.unmet (sym c.cell_at.ensures.value ∙ c.in_default.is)
