use Rattle.std.proofs.Common.{◌≡◌, ℕ, ◌+◌, ◌-◌, ◌<◌, length, ap, ◌∙◌, arith}
use Rattle.iddqd_order.specs.Row.{RowValue, line, block_at, start_of}
use Rattle.iddqd_order.proofs.LineLemmas.{length_parts}
use Rattle.iddqd_order.proofs.PlaceLemmas.{length-same_bounds}
use Rattle.iddqd_order.proofs.blocks.joins.spare_one.Goals as goal

-- before the neighbours
pub returns-then-place-from-clause-place : goal.returns-then-place-from-clause-place
returns-then-place-from-clause-place g c =
    let row = c.args.row.now.blocks in
    let b = c.args.place.block in
    let within : b < length c.condense.new.row.blocks = omega (arith, c.if-place-from.true, c.condense.ensures.some) in
    let start = c.condense.ensures.before b (omega (arith, c.if-place-from.true)) ∙ ap (λ (r : RowValue g.row.E.Denot). start_of r.blocks b) c.begin_at.ensures in
    let end = c.condense.ensures.before (b + 1) (omega (arith, c.if-place-from.true)) ∙ ap (λ (r : RowValue g.row.E.Denot). start_of r.blocks (b + 1)) c.begin_at.ensures in
    let same = length-same_bounds row c.condense.new.row.blocks b b c.requires.place.block within start end in
    record { block = within; offset = omega (arith, same, c.requires.place.offset) }

-- behind them, if a block became spare
pub returns-then-condense-clause-place : goal.returns-then-condense-clause-place
returns-then-condense-clause-place g c =
    let row = c.args.row.now.blocks in
    let made = c.condense-then-to-place in
    let b : ℕ = c.args.place.block - 1 in
    let back : b + 1 ≡ c.args.place.block = omega (arith, c.if-to-place.true) in
    let count = ap (λ (r : RowValue g.row.E.Denot). length r.blocks) c.begin_at.ensures in
    let within : b < length made.new.row.blocks = omega (arith, back, count, made.ensures.joined c.if-condense.true, c.requires.place.block) in
    let start = made.ensures.joined_behind c.if-condense.true b (omega (arith, back, c.if-to-place.true)) ∙ ap (λ (r : RowValue g.row.E.Denot). start_of r.blocks (b + 1)) c.begin_at.ensures in
    let end = made.ensures.joined_behind c.if-condense.true (b + 1) (omega (arith, back, c.if-to-place.true)) ∙ ap (λ (r : RowValue g.row.E.Denot). start_of r.blocks (b + 1 + 1)) c.begin_at.ensures in
    let same = length-same_bounds row made.new.row.blocks (b + 1) b (omega (arith, back, c.requires.place.block)) within start end in
    record { block = within; offset = omega (arith, same, ap (λ (n : ℕ). length (block_at row n)) back, c.requires.place.offset) }

-- behind them, if none did
pub returns-else-condense-clause-place : goal.returns-else-condense-clause-place
returns-else-condense-clause-place g c =
    let row = c.args.row.now.blocks in
    let made = c.condense-then-to-place in
    let b = c.args.place.block in
    let count = ap (λ (r : RowValue g.row.E.Denot). length r.blocks) c.begin_at.ensures in
    let within : b < length made.new.row.blocks = omega (arith, count, made.ensures.count c.if-condense.false, c.requires.place.block) in
    let start = made.ensures.behind c.if-condense.false b c.if-to-place.true ∙ ap (λ (r : RowValue g.row.E.Denot). start_of r.blocks b) c.begin_at.ensures in
    let end = made.ensures.behind c.if-condense.false (b + 1) (omega (arith, c.if-to-place.true)) ∙ ap (λ (r : RowValue g.row.E.Denot). start_of r.blocks (b + 1)) c.begin_at.ensures in
    let same = length-same_bounds row made.new.row.blocks b b c.requires.place.block within start end in
    record { block = within; offset = omega (arith, same, c.requires.place.offset) }

-- among them
pub place_of-requires-clause-within : goal.place_of-requires-clause-within
place_of-requires-clause-within g c =
    let row = c.args.row.now.blocks in
    let b = c.args.place.block in
    let from = c.in-Some.from in
    let start = c.condense-2.ensures.before from (omega arith) in
    let here = ap (λ (r : RowValue g.row.E.Denot). start_of r.blocks b) c.begin_at.ensures in
    let all = ap length c.condense-2.ensures.entries.entries ∙ ap (λ (r : RowValue g.row.E.Denot). length (line r.blocks)) c.begin_at.ensures in
    omega (arith, start, here, all, length_parts row b c.requires.place.block, c.requires.place.offset, c.position_of-before.ensures)
