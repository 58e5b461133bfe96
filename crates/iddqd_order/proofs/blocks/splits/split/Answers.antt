use Rattle.std.proofs.Common.{◌≡◌, ℕ, ◌+◌, length, take, drop, ap, add-one, arith}
use Rattle.std.proofs.lemmas.List.{length-take-le, length-drop, take-append-drop}
use Rattle.iddqd_order.specs.Row.{block_at}
use Rattle.iddqd_order.proofs.LineLemmas.{line_split}
use Rattle.iddqd_order.proofs.PlaceLemmas.{block_at-head, block_at-tail, length-split, start_of-head, start_of-tail}
use Rattle.iddqd_order.proofs.blocks.splits.split.Goals as goal

-- before the offset
pub returns-then-place-offset-clause-entries : goal.returns-then-place-offset-clause-entries
returns-then-place-offset-clause-entries g c =
    let row = c.args.row.now.blocks in
    let b = c.args.place.block in
    let offset = c.split_offset-offset.result in
    let block = block_at row b in
    let many : length c.split.new.self.blocks ≡ length row + 1 = rw (c.split.ensures.blocks, add-one) (length-split row b (take offset block) (drop offset block) c.requires.place.block) in
    record {
      entries = rw (c.split.ensures.blocks, add-one) (line_split row b (take offset block) (drop offset block) c.requires.place.block (take-append-drop offset block));
      total = omega (arith, many, c.split.ensures.spare);
      memory = c.split.ensures.memory;
      most = c.split.ensures.most;
    }

pub returns-then-place-offset-clause-room : goal.returns-then-place-offset-clause-room
returns-then-place-offset-clause-room g c =
    let row = c.args.row.now.blocks in
    let b = c.args.place.block in
    let offset = c.split_offset-offset.result in
    let block = block_at row b in
    let within = c.requires.place.block in
    let full = c.requires.full in
    let head = length-take-le offset block (omega (arith, full, c.split_offset-offset.ensures.most, c.memory.ensures)) in
    let long = length-split row b (take offset block) (drop offset block) within in
    let here = ap length (block_at-head row b (take offset block) (drop offset block) within) in
    rw (c.split.ensures.blocks, add-one) (record { block = omega (arith, long, within); offset = omega (arith, here, head); room = omega (arith, here, head, c.split_offset-offset.ensures.most, c.memory.ensures, c.split.ensures.memory) })

pub returns-then-place-offset-clause-same : goal.returns-then-place-offset-clause-same
returns-then-place-offset-clause-same g c =
    let row = c.args.row.now.blocks in
    let b = c.args.place.block in
    let offset = c.split_offset-offset.result in
    let block = block_at row b in
    rw (c.split.ensures.blocks, add-one) (ap (λ (n : ℕ). n + c.args.place.offset) (start_of-head row b (take offset block) (drop offset block) c.requires.place.block))

-- after the offset
pub returns-clause-entries : goal.returns-clause-entries
returns-clause-entries g c =
    let row = c.args.row.now.blocks in
    let b = c.args.place.block in
    let offset = c.split_offset-offset.result in
    let block = block_at row b in
    let many : length c.split.new.self.blocks ≡ length row + 1 = rw (c.split.ensures.blocks, add-one) (length-split row b (take offset block) (drop offset block) c.requires.place.block) in
    record {
      entries = rw (c.split.ensures.blocks, add-one) (line_split row b (take offset block) (drop offset block) c.requires.place.block (take-append-drop offset block));
      total = omega (arith, many, c.split.ensures.spare);
      memory = c.split.ensures.memory;
      most = c.split.ensures.most;
    }

pub returns-clause-room : goal.returns-clause-room
returns-clause-room g c =
    let row = c.args.row.now.blocks in
    let b = c.args.place.block in
    let offset = c.split_offset-offset.result in
    let block = block_at row b in
    let within = c.requires.place.block in
    let full = c.requires.full in
    let tail = length-drop offset block in
    let long = length-split row b (take offset block) (drop offset block) within in
    let here = ap length (block_at-tail row b (take offset block) (drop offset block) within) in
    rw (c.split.ensures.blocks, add-one) (record {
      block = omega (arith, long, within);
      offset = omega (arith, here, tail, full, c.requires.place.offset);
      room = omega (arith, here, tail, full, c.split_offset-offset.ensures.some, c.split_offset-offset.ensures.most, c.memory.ensures, c.split.ensures.memory);
    })

pub returns-clause-same : goal.returns-clause-same
returns-clause-same g c =
    let row = c.args.row.now.blocks in
    let b = c.args.place.block in
    let offset = c.split_offset-offset.result in
    let block = block_at row b in
    let within = c.requires.place.block in
    let head = length-take-le offset block (omega (arith, c.requires.full, c.split_offset-offset.ensures.most, c.memory.ensures)) in
    rw (c.split.ensures.blocks, add-one) (omega (arith, start_of-tail row b (take offset block) (drop offset block) within, head))
