use Rattle.std.proofs.Common.{◌≡◌, ◌+◌, ◌<◌, length, ap, ◌∙◌, arith}
use Rattle.std.proofs.lemmas.List.{length-set, length_push, length-append}
use Rattle.std.proofs.lemmas.List.Edits.{length-remove}
use Rattle.std.proofs.lemmas.List.Elements.{All-set, All-push}
use Rattle.iddqd_order.specs.Row.{IsHeld, IsSpare}
use Rattle.iddqd_order.proofs.LineLemmas.{length-entry_lists, entry_lists_joined, joined_lengths, All-remove, All-read}
use Rattle.iddqd_order.proofs.row.BlockRow.join.Goals as goal

pub append-requires : goal.append-requires
append-requires g c =
    let values = c.self.inside.blocks.items in
    let at = c.args.at in
    let i = c.self.invariant in
    let there = rw (← c.self.view_is) at c.requires.within in
    let within : at + 1 < length values = omega (arith, there, length-entry_lists values) in
    let next = All-read (IsHeld c.self.inside.memory) values (at + 1) _ within c.remove-next.ensures.value i.held in
    let fewer : length c.remove-next.new.self.items + 1 ≡ length values = ap (λ q. length q + 1) c.remove-next.ensures.items ∙ length-remove values (at + 1) within in
    let left = rw (← c.remove-next.ensures.items) at (All-remove (IsHeld c.self.inside.memory) values (at + 1) i.held) in
    let head = All-read (IsHeld c.self.inside.memory) c.remove-next.new.self.items at _ (omega (arith, fewer)) c.index_mut-block.ensures.value left in
    let fits = rw (← c.self.view_is) at c.requires.fits in
    let long = joined_lengths values c.remove-next.new.self.items at _ _ within c.remove-next.ensures.items c.remove-next.ensures.value c.index_mut-block.ensures.value in
    omega (arith, fits, head.room, long.0, long.1)

pub invariant_of-self : goal.invariant_of-self
invariant_of-self g c =
    let values = c.self.inside.blocks.items in
    let at = c.args.at in
    let i = c.self.invariant in
    let memory = c.self.inside.memory in
    let there = rw (← c.self.view_is) at c.requires.within in
    let within : at + 1 < length values = omega (arith, there, length-entry_lists values) in
    let fewer : length c.remove-next.new.self.items + 1 ≡ length values = ap (λ q. length q + 1) c.remove-next.ensures.items ∙ length-remove values (at + 1) within in
    let left = rw (← c.remove-next.ensures.items) at (All-remove (IsHeld memory) values (at + 1) i.held) in
    let next = All-read (IsHeld memory) values (at + 1) _ within c.remove-next.ensures.value i.held in
    let head = All-read (IsHeld memory) c.remove-next.new.self.items at _ (omega (arith, fewer)) c.index_mut-block.ensures.value left in
    let longer = ap length c.push_reserved.ensures.items ∙ length_push c.self.inside.spare.items c.append.new.next in
    let same = length-set c.remove-next.new.self.items at c.append.new.self in
    let sum = ap length c.append.ensures.all ∙ length-append c.index_mut-block.result.now.entries c.remove-next.result.entries in
    let fits = rw (← c.self.view_is) at c.requires.fits in
    let long = joined_lengths values c.remove-next.new.self.items at _ _ within c.remove-next.ensures.items c.remove-next.ensures.value c.index_mut-block.ensures.value in
    record {
      held = All-set (IsHeld memory) c.remove-next.new.self.items at c.append.new.self (record {
        room = omega (arith, head.room, c.append.ensures.no_less);
        some = omega (arith, sum, head.some);
        most = omega (arith, sum, fits, long.0, long.1);
      }) left;
      unused = rw c.push_reserved.ensures.items (All-push (IsSpare memory) c.self.inside.spare.items c.append.new.next i.unused (record { room = omega (arith, next.room, c.append.ensures.no_less_next); none = c.append.ensures.none }));
      row_fits = omega (arith, fewer, longer, same, i.row_fits, c.remove-next.ensures.capacity);
      spare_fits = omega (arith, fewer, longer, same, i.spare_fits, c.push_reserved.ensures.capacity);
      few = λ small. absurd (omega (arith, i.few small, within));
      memory_most = i.memory_most;
      least = i.least;
      low = i.low;
      high = λ wide. absurd (omega (arith, i.high wide, within));
    }

pub returns-clause-blocks : goal.returns-clause-blocks
returns-clause-blocks g c =
    let values = c.self.inside.blocks.items in
    let at = c.args.at in
    let there = rw (← c.self.view_is) at c.requires.within in
    let within : at + 1 < length values = omega (arith, there, length-entry_lists values) in
    let next = c.remove-next.ensures in
    let head = c.index_mut-block.ensures.value in
    rw (← c.self.view_is) (entry_lists_joined values c.remove-next.new.self.items at _ _ c.append.new.self within next.items next.value head c.append.ensures.all)
