use Rattle.std.proofs.Common.{◌<◌, List, length, set, ap, ◌∙◌, arith}
use Rattle.std.specs.List.{remove}
use Rattle.std.proofs.lemmas.List.{length-set}
use Rattle.std.proofs.lemmas.List.Edits.{length-remove}
use Rattle.std.proofs.lemmas.List.Elements.{All-set}
use Rattle.iddqd_order.specs.Row.{entry_lists, IsHeld}
use Rattle.iddqd_order.proofs.LineLemmas.{block_read, length-entry_lists, entry_lists-set, All-read}
use Rattle.iddqd_order.proofs.row.BlockRow.remove_from.Goals as goal

pub invariant_of-self : goal.invariant_of-self
invariant_of-self g c =
    let values = c.self.inside.blocks.items in
    let at = c.args.place.block in
    let i = c.self.invariant in
    let memory = c.self.inside.memory in
    let there = rw (← c.self.view_is) at c.requires.block in
    let offset = rw (← c.self.view_is) at c.requires.offset in
    let many = rw (← c.self.view_is) at c.requires.many in
    let within : at < length values = omega (arith, there, length-entry_lists values) in
    let read = ap length (block_read values at _ within c.index_mut-block.ensures.value) in
    let held = All-read (IsHeld memory) values at _ within c.index_mut-block.ensures.value i.held in
    let same = length-set values at c.remove.new.self in
    let fewer = ap length c.remove.ensures.rest in
    let one = length-remove c.index_mut-block.result.now.entries c.args.place.offset (omega (arith, offset, read)) in
    record {
      held = All-set (IsHeld memory) values at c.remove.new.self (record {
        room = omega (arith, held.room, c.remove.ensures.no_less);
        some = omega (arith, fewer, one, many, read);
        most = omega (arith, fewer, one, held.most);
      }) i.held;
      unused = i.unused;
      row_fits = omega (arith, same, i.row_fits);
      spare_fits = omega (arith, same, i.spare_fits);
      few = λ small. omega (arith, same, i.few small);
      memory_most = i.memory_most;
      least = i.least;
      low = i.low;
      high = λ wide. omega (arith, same, i.high wide);
    }

pub returns-clause-blocks : goal.returns-clause-blocks
returns-clause-blocks g c =
    let values = c.self.inside.blocks.items in
    let at = c.args.place.block in
    let there = rw (← c.self.view_is) at c.requires.block in
    let within : at < length values = omega (arith, there, length-entry_lists values) in
    let read = block_read values at _ within c.index_mut-block.ensures.value in
    rw (← c.self.view_is) (entry_lists-set values at c.remove.new.self ∙ ap (λ (q : List g.row.E.Denot). set (entry_lists values) at q) (c.remove.ensures.rest ∙ ap (λ (q : List g.row.E.Denot). remove q c.args.place.offset) read))
