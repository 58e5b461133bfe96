use Rattle.std.proofs.Common.{◌<◌, List, length, set, ap, ◌∙◌, arith}
use Rattle.std.specs.List.{insert}
use Rattle.iddqd_order.specs.Row.{entry_lists}
use Rattle.iddqd_order.proofs.LineLemmas.{block_read, length-entry_lists, entry_lists-set}
use Rattle.iddqd_order.proofs.row.BlockRow.insert.Goals as goal

pub returns-clause-blocks : goal.returns-clause-blocks
returns-clause-blocks g c =
    let values = c.self.inside.blocks.items in
    let at = c.args.at in
    let there = rw (← c.self.view_is) at c.requires.block in
    let within : at < length values = omega (arith, there, length-entry_lists values) in
    let read = block_read values at _ within c.index_mut-block.ensures.value in
    rw (← c.self.view_is) (entry_lists-set values at c.insert.new.self ∙ ap (λ (q : List g.row.E.Denot). set (entry_lists values) at q) (c.insert.ensures.entries ∙ ap (λ (q : List g.row.E.Denot). insert q c.args.offset c.args.entry) read))
