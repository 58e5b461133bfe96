use Rattle.std.proofs.Common.{◌≡◌, ◌≢◌, ℕ, ◌+◌, ◌-◌, ◌<◌, ◌≤◌, length, ap, ◌∙◌, arith, inl, inr}
use Rattle.std.proofs.lemmas.Bool.{cases_lt, cases_eq}
use Rattle.iddqd_order.specs.Row.{block_at, start_of}
use Rattle.iddqd_order.proofs.LineLemmas.{start_of-next, all_full}
use Rattle.iddqd_order.proofs.blocks.shifts.shift.Goals as goal

pub returns-in-Some-clause-same : goal.returns-in-Some-clause-same
returns-in-Some-clause-same g c =
    omega (arith, c.shift_up-in-Some.ensures.start, start_of-next c.args.row.now.blocks c.args.place.block c.requires.place.block, c.requires.full, c.requires.place.offset, c.memory.ensures)

pub returns-then-place-gt0-clause-same : goal.returns-then-place-gt0-clause-same
returns-then-place-gt0-clause-same g c =
    let at = c.args.place.block in
    let old = start_of-next c.args.row.now.blocks at c.requires.place.block in
    let new = start_of-next c.shift_down.new.row.blocks at (omega (arith, c.shift_down.ensures.count, c.requires.place.block)) in
    omega (arith, c.shift_down.ensures.start, old, new, c.requires.full, c.shift_down.ensures.len c.in-Some-gap_before.ensures.before, c.shift_down.ensures.entries.memory)

pub returns-in-None-clause-full : goal.returns-in-None-clause-full
returns-in-None-clause-full g c =
    let row = c.args.row.now.blocks in
    let memory = c.args.row.now.memory in
    let behind = c.in_default.ensures.all in
    let before = c.in-None.ensures.all in
    let each : (b : ℕ) → b < length row → length (block_at row b) ≡ memory = λ b lt. elim (cases_lt b c.args.place.block) [
      | inl low ↦ before b low
      | inr high ↦ elim (cases_eq b c.args.place.block) [
        | inl same ↦ ap (λ (n : ℕ). length (block_at row n)) same ∙ c.requires.full
        | inr other ↦ behind b (above b c.args.place.block high other) lt
      ]
    ] in
    all_full memory row each
  where
    above : (b at : ℕ) → at ≤ b → b ≢ at → at < b
    above b at le other = elim (cases_lt at b) [ inl lt ↦ lt | inr ge ↦ absurd (other (omega (arith, le, ge))) ]

pub returns-else-place-gt0-clause-same : goal.returns-else-place-gt0-clause-same
returns-else-place-gt0-clause-same g c =
    let at = c.args.place.block in
    let back : at - 1 + 1 ≡ at = omega (arith, c.in-Some-gap_before.ensures.before) in
    let new = c.shift_down-in-Some-gap_before.new.row.blocks in
    let next = start_of-next new (at - 1) (omega (arith, c.shift_down-in-Some-gap_before.ensures.count, c.requires.place.block, back)) in
    omega (arith, c.shift_down-in-Some-gap_before.ensures.start, next, ap (start_of c.args.row.now.blocks) back, c.len_at.ensures.value)
