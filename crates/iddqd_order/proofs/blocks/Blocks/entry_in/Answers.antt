use Rattle.std.proofs.Common.{sym, ◌∙◌}
use Rattle.iddqd_order.specs.Row.{block_at}
use Rattle.iddqd_order.proofs.LineLemmas.{read_any, entry_at_position}
use Rattle.iddqd_order.proofs.PlaceLemmas.{position-below}
use Rattle.iddqd_order.proofs.blocks.Blocks.entry_in.Goals as goal

pub returns-clause-value : goal.returns-clause-value
returns-clause-value g c =
    let row = c.self.inside.row.blocks in
    let place = rw (← c.self.view_is) at c.requires in
    let b = c.args.place.block in
    let k = c.args.place.offset in
    rw (← c.self.view_is) (λ d. read_any (block_at row b) k c.entry_in.result.now d place.offset c.entry_in.ensures ∙ sym (entry_at_position row b k d place.block place.offset))

pub returns-clause-within : goal.returns-clause-within
returns-clause-within g c =
    let place = rw (← c.self.view_is) at c.requires in
    rw (← c.self.view_is) (position-below c.self.inside.row.blocks c.args.place place)
