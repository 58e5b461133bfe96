use Rattle.std.proofs.Common.{length, set, sym, ap, ◌∙◌, arith}
use Rattle.std.proofs.lemmas.List.{length-set}
use Rattle.iddqd_order.specs.Row.{line, block_at, position}
use Rattle.iddqd_order.proofs.LineLemmas.{read_any, entry_at_position, line_replaced}
use Rattle.iddqd_order.proofs.PlaceLemmas.{position-same, HasEntry-same}
use Rattle.iddqd_order.proofs.blocks.Blocks.replace.Goals as goal

pub invariant_of-self : goal.invariant_of-self
invariant_of-self g c =
    let row = c.self.inside.row.blocks in
    let i = c.self.invariant in
    let place = rw (← c.self.view_is) at c.requires in
    let b = c.args.place.block in
    let k = c.args.place.offset in
    let same = ap length (ap line c.replace.ensures.replaced ∙ line_replaced row b k c.args.entry place.block place.offset) ∙ length-set (line row) (position row c.args.place) c.args.entry in
    let blocks = ap length c.replace.ensures.replaced ∙ length-set row b (set (block_at row b) k c.args.entry) in
    record {
      counted = omega (arith, same, i.counted);
      fits = i.fits;
      held = rw (c.replace.ensures.memory, c.replace.ensures.spare, blocks) i.held;
      unused = i.unused;
      some = rw (c.replace.ensures.memory, c.replace.ensures.spare, blocks) i.some;
    }

pub returns-clause-value : goal.returns-clause-value
returns-clause-value g c =
    let row = c.self.inside.row.blocks in
    let place = rw (← c.self.view_is) at c.requires in
    let b = c.args.place.block in
    let k = c.args.place.offset in
    rw (← c.self.view_is) (λ d. read_any (block_at row b) k c.replace.result d place.offset c.replace.ensures.value ∙ sym (entry_at_position row b k d place.block place.offset))

pub returns-clause-entries : goal.returns-clause-entries
returns-clause-entries g c =
    let row = c.self.inside.row.blocks in
    let place = rw (← c.self.view_is) at c.requires in
    rw (c.replace.ensures.replaced, ← c.self.view_is) (line_replaced row c.args.place.block c.args.place.offset c.args.entry place.block place.offset)

pub returns-clause-at : goal.returns-clause-at
returns-clause-at g c =
    let row = c.self.inside.row.blocks in
    let b = c.args.place.block in
    let k = c.args.place.offset in
    let x = set (block_at row b) k c.args.entry in
    rw (c.replace.ensures.replaced, ← c.self.view_is) (position-same row b x (length-set (block_at row b) k c.args.entry) c.args.place)

pub returns-clause-entry : goal.returns-clause-entry
returns-clause-entry g c =
    let row = c.self.inside.row.blocks in
    let place = rw (← c.self.view_is) at c.requires in
    let b = c.args.place.block in
    let k = c.args.place.offset in
    let x = set (block_at row b) k c.args.entry in
    rw c.replace.ensures.replaced (HasEntry-same row b x (length-set (block_at row b) k c.args.entry) c.args.place place)
