use Rattle.std.proofs.Common.{◌≡◌, ◌+◌, ◌<◌, ◌∷◌, [], ◌++◌, List, length, sym, ap, ◌∙◌, arith}
use Rattle.std.proofs.lemmas.List.{length_push, length-append, nil_from_length}
use Rattle.std.proofs.lemmas.List.Edits.{length-remove}
use Rattle.std.proofs.lemmas.List.Elements.{All-push}
use Rattle.iddqd_order.specs.Row.{entry_lists, IsHeld, IsSpare}
use Rattle.iddqd_order.proofs.LineLemmas.{block_read, length-entry_lists, entry_lists-remove, All-remove, All-read}
use Rattle.iddqd_order.proofs.row.BlockRow.remove_block.Goals as goal

pub invariant_of-self : goal.invariant_of-self
invariant_of-self g c =
    let values = c.self.inside.blocks.items in
    let at = c.args.at in
    let i = c.self.invariant in
    let memory = c.self.inside.memory in
    let there = rw (← c.self.view_is) at c.requires.block in
    let one = rw (← c.self.view_is) at c.requires.one in
    let within : at < length values = omega (arith, there, length-entry_lists values) in
    let read = ap length (block_read values at _ within c.remove-block.ensures.value) in
    let held = All-read (IsHeld memory) values at _ within c.remove-block.ensures.value i.held in
    let fewer : length c.remove-block.new.self.items + 1 ≡ length values = ap (λ q. length q + 1) c.remove-block.ensures.items ∙ length-remove values at within in
    let longer = ap length c.push_reserved.ensures.items ∙ length_push c.self.inside.spare.items c.take_last-entry.new.self in
    let short = ap length c.take_last-entry.ensures.parts ∙ length-append c.take_last-entry.new.self.entries (c.take_last-entry.result ∷ []) in
    record {
      held = rw c.remove-block.ensures.items (All-remove (IsHeld memory) values at i.held);
      unused = rw c.push_reserved.ensures.items (All-push (IsSpare memory) c.self.inside.spare.items c.take_last-entry.new.self i.unused (record {
        room = omega (arith, held.room, c.take_last-entry.ensures.room);
        none = nil_from_length c.take_last-entry.new.self.entries (omega (arith, short, read, one));
      }));
      row_fits = omega (arith, fewer, longer, i.row_fits, c.remove-block.ensures.capacity);
      spare_fits = omega (arith, fewer, longer, i.spare_fits, c.push_reserved.ensures.capacity);
      few = λ small. omega (arith, fewer, longer, i.few small);
      memory_most = i.memory_most;
      least = i.least;
      low = i.low;
      high = λ wide. omega (arith, fewer, longer, i.high wide);
    }

pub returns-clause-value : goal.returns-clause-value
returns-clause-value g c =
    let values = c.self.inside.blocks.items in
    let at = c.args.at in
    let there = rw (← c.self.view_is) at c.requires.block in
    let one = rw (← c.self.view_is) at c.requires.one in
    let within : at < length values = omega (arith, there, length-entry_lists values) in
    let read = block_read values at _ within c.remove-block.ensures.value in
    let short = ap length c.take_last-entry.ensures.parts ∙ length-append c.take_last-entry.new.self.entries (c.take_last-entry.result ∷ []) in
    let none = nil_from_length c.take_last-entry.new.self.entries (omega (arith, short, ap length read, one)) in
    rw (← c.self.view_is) (sym read ∙ c.take_last-entry.ensures.parts ∙ ap (λ (q : List g.row.E.Denot). q ++ c.take_last-entry.result ∷ []) none)

pub returns-clause-blocks : goal.returns-clause-blocks
returns-clause-blocks g c = rw (← c.self.view_is) (ap entry_lists c.remove-block.ensures.items ∙ entry_lists-remove c.self.inside.blocks.items c.args.at)
