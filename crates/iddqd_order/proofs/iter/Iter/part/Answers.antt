use Rattle.std.proofs.Common.{◌≡◌, ℕ, ◌+◌, ◌≤◌, List, ◌++◌, length, sym, ap, ◌∙◌, arith}
use Rattle.std.specs.Prelude.{slice_range}
use Rattle.std.proofs.lemmas.List.{append-nil}
use Rattle.iddqd_order.specs.Row.{line, entry_lists, block_at, start_of, position}
use Rattle.iddqd_order.proofs.PartLemmas.{range_before, range_block, range_across, range_le}
use Rattle.iddqd_order.proofs.iter.Iter.part.Goals as goal

pub returns-then-to-from : goal.returns-then-to-from
returns-then-to-from g c = c.default.ensures ∙ sym (range_before c.args.row.now.blocks c.args.from c.args.to c.requires.from c.requires.to (omega arith))

pub returns-then-from-to : goal.returns-then-from-to
returns-then-from-to g c =
    let row = c.args.row.now.blocks in
    let a = c.args.from.block in
    let i = c.args.from.offset in
    let j = c.args.to.offset in
    let same : a ≡ c.args.to.block = omega arith in
    let le : j ≤ length (block_at row a) = omega (arith, c.requires.to.offset, ap (λ (n : ℕ). length (block_at row n)) same) in
    append-nil c.part_of.result.now ∙ c.part_of.ensures ∙ sym (range_block row a i j le) ∙ ap (λ (n : ℕ). slice_range (line row) (start_of row a + i) (start_of row n + j)) same

pub returns : goal.returns
returns g c =
    let row = c.args.row.now.blocks in
    let a = c.args.from.block in
    let b = c.args.to.block in
    let front = rw c.len_at.ensures.value at c.part_of-2.ensures in
    let back = c.part_of-3.result.now in
    ap (λ (q : List g.row.E.Denot). q ++ (line (entry_lists c.between.result.now) ++ back)) front
    ∙ ap (λ (q : List (List g.row.E.Denot)). slice_range (block_at row a) c.args.from.offset (length (block_at row a)) ++ (line q ++ back)) c.between.ensures.value
    ∙ ap (λ (q : List g.row.E.Denot). slice_range (block_at row a) c.args.from.offset (length (block_at row a)) ++ (line (slice_range row (a + 1) b) ++ q)) c.part_of-3.ensures
    ∙ range_across row a c.args.from.offset b c.args.to.offset (omega arith) c.requires.to.block c.requires.from.offset c.requires.to.offset

pub invariant_of-result-2 : goal.invariant_of-result-2
invariant_of-result-2 g c =
    let row = c.args.row.now.blocks in
    let few = range_le (line row) (position row c.args.from) (position row c.args.to) in
    (c.between.ensures.filled, omega (arith, ap length (returns g c), few, c.requires.count, c.ranges._count.fits), tt)
