use Rattle.std.proofs.Common.{length, set, refl, sym, ap, ◌∙◌, arith}
use Rattle.std.proofs.lemmas.List.{length-set}
use Rattle.iddqd_order.specs.Row.{line, block_at, position}
use Rattle.iddqd_order.proofs.LineLemmas.{read_any, entry_at_position, line_replaced}
use Rattle.iddqd_order.proofs.PlaceLemmas.{position-below}
use Rattle.iddqd_order.proofs.blocks.Blocks.entry_mut.Goals as goal

pub invariant_of-self-lent : goal.invariant_of-self-lent
invariant_of-self-lent g c w =
    let row = c.self.inside.row.blocks in
    let i = c.self.invariant in
    let place = rw (← c.self.view_is) at c.requires in
    let b = c.args.place.block in
    let k = c.args.place.offset in
    let same = ap length (line_replaced row b k w place.block place.offset) ∙ length-set (line row) (position row c.args.place) w in
    let blocks = length-set row b (set (block_at row b) k w) in
    record {
      counted = omega (arith, same, i.counted);
      fits = i.fits;
      held = rw blocks i.held;
      unused = i.unused;
      some = rw blocks i.some;
    }

pub returns : goal.returns
returns g c =
    let row = c.self.inside.row.blocks in
    let place = rw (← c.self.view_is) at c.requires in
    let b = c.args.place.block in
    let k = c.args.place.offset in (
      (refl, λ w. rw (← c.self.view_is) refl),
      record {
        writes_back = tt;
        value = rw (← c.self.view_is) (λ d. read_any (block_at row b) k c.entry_mut.result.now d place.offset c.entry_mut.ensures.value ∙ sym (entry_at_position row b k d place.block place.offset));
        within = rw (← c.self.view_is) (position-below row c.args.place place);
        written = rw (← c.self.view_is) (λ e. line_replaced row b k e place.block place.offset);
      },
    )
