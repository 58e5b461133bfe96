use Rattle.std.proofs.Common.{◌+◌, ◌<◌, List, All, Some, length, set, sym, ap, ◌∙◌, subst, arith}
use Rattle.std.proofs.lemmas.List.{length-set, length_push, length-take-le, length-drop}
use Rattle.std.proofs.lemmas.List.Edits.{length-insert}
use Rattle.std.proofs.lemmas.List.Elements.{All-set, All-pop}
use Rattle.iddqd_order.specs.Row.{BlockValue, IsHeld, IsSpare}
use Rattle.iddqd_order.proofs.LineLemmas.{length-entry_lists, block_read, entry_lists_split, All-insert, All-read}
use Rattle.iddqd_order.proofs.row.BlockRow.split.Goals as goal

pub split_into-requires-clause-within : goal.split_into-requires-clause-within
split_into-requires-clause-within g c =
    let values = c.self.inside.blocks.items in
    let there = rw (← c.self.view_is) at c.requires.within in
    let within : c.args.at < length values = omega (arith, there, length-entry_lists values) in
    let offset = rw (← c.self.view_is) at c.requires.offset in
    omega (arith, offset, ap length (block_read values c.args.at _ within c.index_mut-head.ensures.value))

pub split_into-requires-clause-empty : goal.split_into-requires-clause-empty
split_into-requires-clause-empty g c =
    let tail = All-pop (IsSpare c.self.inside.memory) c.self.inside.spare.items c.take_last-tail.new.self.items (Some c.take_last-tail.result) c.take_last-tail.ensures.items c.self.invariant.unused in
    tail.1.none

pub split_into-requires-clause-room : goal.split_into-requires-clause-room
split_into-requires-clause-room g c =
    let values = c.self.inside.blocks.items in
    let i = c.self.invariant in
    let there = rw (← c.self.view_is) at c.requires.within in
    let within : c.args.at < length values = omega (arith, there, length-entry_lists values) in
    let tail = All-pop (IsSpare c.self.inside.memory) c.self.inside.spare.items c.take_last-tail.new.self.items (Some c.take_last-tail.result) c.take_last-tail.ensures.items i.unused in
    let held = All-read (IsHeld c.self.inside.memory) values c.args.at _ within c.index_mut-head.ensures.value i.held in
    omega (arith, tail.1.room, held.most)

pub invariant_of-self : goal.invariant_of-self
invariant_of-self g c =
    let values = c.self.inside.blocks.items in
    let spare = c.self.inside.spare.items in
    let memory = c.self.inside.memory in
    let at = c.args.at in
    let i = c.self.invariant in
    let there = rw (← c.self.view_is) at c.requires.within in
    let within : at < length values = omega (arith, there, length-entry_lists values) in
    let some = c.requires.some in
    let less = rw (← c.self.view_is) at c.requires.offset in
    let gone = c.take_last-tail.new.self.items in
    let tail = All-pop (IsSpare memory) spare gone (Some c.take_last-tail.result) c.take_last-tail.ensures.items i.unused in
    let head = All-read (IsHeld memory) values at _ within c.index_mut-head.ensures.value i.held in
    let old = c.index_mut-head.result.now.entries in
    let read = ap length (block_read values at _ within c.index_mut-head.ensures.value) in
    let first = ap length c.split_into.ensures.head ∙ length-take-le c.args.offset old (omega (arith, less, read)) in
    let last = ap length c.split_into.ensures.tail ∙ length-drop c.args.offset old in
    let halved = set values at c.split_into.new.self in
    let all = All-set (IsHeld memory) values at c.split_into.new.self (record { room = omega (arith, head.room, c.split_into.ensures.no_less); some = omega (arith, first, some); most = omega (arith, first, less, read, head.most) }) i.held in
    let behind : IsHeld memory c.split_into.new.tail = record { room = omega (arith, tail.1.room, c.split_into.ensures.no_less_tail); some = omega (arith, last, less, read); most = omega (arith, last, head.most) } in
    let same = length-set values at c.split_into.new.self in
    let more = ap length c.in-Ok.ensures.items ∙ length-insert halved (at + 1) c.split_into.new.tail (omega (arith, within, same)) in
    let fewer = ap length c.take_last-tail.ensures.items ∙ length_push gone c.take_last-tail.result in
    record {
      held = subst (λ (q : List (BlockValue g.row.E.Denot)). All (IsHeld memory) q) (sym c.in-Ok.ensures.items) (All-insert (IsHeld memory) halved (at + 1) c.split_into.new.tail all behind);
      unused = tail.0;
      row_fits = omega (arith, more, same, fewer, i.row_fits, c.insert.ensures.capacity);
      spare_fits = omega (arith, more, same, fewer, i.spare_fits, c.take_last-tail.ensures.capacity);
      few = λ small. absurd (omega (arith, i.few small, within, fewer));
      memory_most = i.memory_most;
      least = i.least;
      low = i.low;
      high = λ wide. absurd (omega (arith, i.high wide, within, fewer));
    }

pub returns-clause-blocks : goal.returns-clause-blocks
returns-clause-blocks g c =
    let values = c.self.inside.blocks.items in
    let at = c.args.at in
    let there = rw (← c.self.view_is) at c.requires.within in
    let within : at < length values = omega (arith, there, length-entry_lists values) in
    let read = c.index_mut-head.ensures.value in
    rw (← c.self.view_is, c.in-Ok.ensures.items)
    (entry_lists_split values at c.args.offset _ c.split_into.new.self c.split_into.new.tail within read c.split_into.ensures.head c.split_into.ensures.tail)
