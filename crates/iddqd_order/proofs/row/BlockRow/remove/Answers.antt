use Rattle.std.proofs.Common.{◌≡◌, ℕ, ◌+◌, List, length, sym, ap, ◌∙◌, arith}
use Rattle.std.specs.List.{remove}
use Rattle.std.proofs.lemmas.List.{length-set, get_or-set_same}
use Rattle.std.proofs.lemmas.List.Edits.{length-remove}
use Rattle.iddqd_order.specs.Row.{line, block_at, start_of}
use Rattle.iddqd_order.proofs.LineLemmas.{entry_at_position, line_removed, only-value, only-removed, only-start}
use Rattle.iddqd_order.proofs.PlaceLemmas.{start_of-set}
use Rattle.iddqd_order.proofs.row.BlockRow.remove.Goals as goal

pub returns-then-len_at-eq1-clause-value : goal.returns-then-len_at-eq1-clause-value
returns-then-len_at-eq1-clause-value g c =
    only-value c.args.self.now.blocks c.args.place.block c.args.place.offset c.remove_block.result c.requires.block c.requires.offset c.remove_block.ensures.value

pub returns-then-len_at-eq1-clause-rest : goal.returns-then-len_at-eq1-clause-rest
returns-then-len_at-eq1-clause-rest g c =
    ap line c.remove_block.ensures.blocks
    ∙ only-removed c.args.self.now.blocks c.args.place.block c.args.place.offset c.remove_block.result c.requires.block c.requires.offset c.remove_block.ensures.value

pub returns-then-len_at-eq1-clause-total : goal.returns-then-len_at-eq1-clause-total
returns-then-len_at-eq1-clause-total g c =
    omega (arith, ap length c.remove_block.ensures.blocks, length-remove c.args.self.now.blocks c.args.place.block c.requires.block, c.remove_block.ensures.spare)

pub returns-then-len_at-eq1-clause-place : goal.returns-then-len_at-eq1-clause-place
returns-then-len_at-eq1-clause-place g c =
    let one = c.len_at.ensures.value in
    record {
      block = omega (arith, ap length c.remove_block.ensures.blocks, length-remove c.args.self.now.blocks c.args.place.block c.requires.block, c.requires.block);
      offset = omega (arith, c.requires.offset, one);
    }

pub returns-then-len_at-eq1-clause-same : goal.returns-then-len_at-eq1-clause-same
returns-then-len_at-eq1-clause-same g c =
    ap (λ (q : List (List g.row.E.Denot)). start_of q c.args.place.block + c.args.place.offset) c.remove_block.ensures.blocks
    ∙ ap (λ (n : ℕ). n + c.args.place.offset) (only-start c.args.self.now.blocks c.args.place.block c.args.place.offset c.remove_block.result c.requires.block c.requires.offset c.remove_block.ensures.value)

pub returns-clause-value : goal.returns-clause-value
returns-clause-value g c =
    c.remove_from.ensures.value ∙ sym (entry_at_position c.args.self.now.blocks c.args.place.block c.args.place.offset c.remove_from.result c.requires.block c.requires.offset)

pub returns-clause-rest : goal.returns-clause-rest
returns-clause-rest g c =
    ap line c.remove_from.ensures.blocks ∙ line_removed c.args.self.now.blocks c.args.place.block c.args.place.offset c.requires.block c.requires.offset

pub returns-clause-total : goal.returns-clause-total
returns-clause-total g c =
    omega (arith, ap length c.remove_from.ensures.blocks, length-set c.args.self.now.blocks c.args.place.block (remove (block_at c.args.self.now.blocks c.args.place.block) c.args.place.offset), c.remove_from.ensures.spare)

pub returns-clause-place : goal.returns-clause-place
returns-clause-place g c =
    let row = c.args.self.now.blocks in
    let b = c.args.place.block in
    let k = c.args.place.offset in
    let less = remove (block_at row b) k in
    let here : block_at c.remove_from.new.self.blocks b ≡ less = ap (λ (q : List (List g.row.E.Denot)). block_at q b) c.remove_from.ensures.blocks ∙ get_or-set_same row b less _ c.requires.block in
    record {
      block = omega (arith, ap length c.remove_from.ensures.blocks, length-set row b less, c.requires.block);
      offset = omega (arith, ap length here, length-remove (block_at row b) k c.requires.offset, c.requires.offset);
    }

pub returns-clause-same : goal.returns-clause-same
returns-clause-same g c =
    ap (λ (q : List (List g.row.E.Denot)). start_of q c.args.place.block + c.args.place.offset) c.remove_from.ensures.blocks
    ∙ ap (λ (n : ℕ). n + c.args.place.offset) (start_of-set c.args.self.now.blocks c.args.place.block _)
