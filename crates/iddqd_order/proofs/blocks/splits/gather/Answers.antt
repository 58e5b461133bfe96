use Rattle.std.proofs.Common.{◌≡◌, List, length, ap, arith}
use Rattle.iddqd_order.specs.Row.{BlockValue, line, block_at}
use Rattle.iddqd_order.proofs.LineLemmas.{length_parts}
use Rattle.iddqd_order.proofs.blocks.splits.gather.Goals as goal

pub returns-clause-room : goal.returns-clause-room
returns-clause-room g c =
    let row = c.args.row.now.blocks in
    let here : block_at c.gather.new.self.blocks 0 ≡ line row = ap (λ (q : List (List g.row.E.Denot)). block_at q 0) c.gather.ensures.blocks in
    let room = ap (λ (r : BlockValue g.row.E.Denot). r.room) c.replace-wide.ensures.value in
    record {
      block = omega (arith, ap length c.gather.ensures.blocks);
      offset = omega (arith, ap length here, length_parts row c.args.place.block c.requires.place.block, c.position_of-offset.ensures, c.requires.place.offset);
      room = omega (arith, ap length here, room, c.gather.ensures.memory, c.requires.fits);
    }
