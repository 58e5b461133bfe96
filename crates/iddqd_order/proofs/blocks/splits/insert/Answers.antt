use Rattle.std.proofs.Common.{ℕ, ◌+◌, List, length, ap, ◌∙◌, arith}
use Rattle.std.proofs.lemmas.List.{length-set, get_or-set_same, nil_from_length}
use Rattle.std.proofs.lemmas.List.Edits.{length-insert}
use Rattle.std.specs.List.{insert}
use Rattle.iddqd_order.specs.Row.{line, block_at, start_of, position}
use Rattle.iddqd_order.proofs.PlaceLemmas.{start_of-set, position-past}
use Rattle.iddqd_order.proofs.LineLemmas.{line_inserted}
use Rattle.iddqd_order.proofs.blocks.splits.insert.Goals as goal

pub returns-clause-entries : goal.returns-clause-entries
returns-clause-entries g c =
    let made = c.make_room-place.new.row.blocks in
    let p = c.make_room-place.result in
    let there = c.make_room-place.ensures.room in
    ap line c.insert.ensures.blocks
    ∙ line_inserted made p.block p.offset c.args.entry there.block there.offset
    ∙ ap (λ (q : List g.row.E.Denot). insert q (position made p) c.args.entry) c.make_room-place.ensures.entries
    ∙ ap (λ (n : ℕ). insert (line c.args.row.now.blocks) n c.args.entry) c.make_room-place.ensures.same

pub returns-clause-entry : goal.returns-clause-entry
returns-clause-entry g c =
    let made = c.make_room-place.new.row.blocks in
    let p = c.make_room-place.result in
    let there = c.make_room-place.ensures.room in
    let more = insert (block_at made p.block) p.offset c.args.entry in
    let here = ap (λ (q : List (List g.row.E.Denot)). block_at q p.block) c.insert.ensures.blocks ∙ get_or-set_same made p.block more _ there.block in
    record {
      block = omega (arith, ap length c.insert.ensures.blocks, length-set made p.block more, there.block);
      offset = omega (arith, ap length here, length-insert (block_at made p.block) p.offset c.args.entry there.offset, there.offset);
    }

pub returns-clause-at : goal.returns-clause-at
returns-clause-at g c =
    let made = c.make_room-place.new.row.blocks in
    let p = c.make_room-place.result in
    ap (λ (q : List (List g.row.E.Denot)). start_of q p.block + p.offset) c.insert.ensures.blocks
    ∙ ap (λ (n : ℕ). n + p.offset) (start_of-set made p.block _)
    ∙ c.make_room-place.ensures.same

pub returns-then-len-eq0-clause-at : goal.returns-then-len-eq0-clause-at
returns-then-len-eq0-clause-at g c =
    let row = c.args.row.now.blocks in
    let none = nil_from_length row (omega (arith, c.len.ensures.value)) in
    omega (arith, position-past row c.args.place c.requires.place (omega (arith, c.len.ensures.value)), ap (λ (q : List (List g.row.E.Denot)). length (line q)) none, ap (λ (q : List (List g.row.E.Denot)). start_of q 0) c.start.ensures.blocks)
