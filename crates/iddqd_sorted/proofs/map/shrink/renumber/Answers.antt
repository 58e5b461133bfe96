use Rattle.std.proofs.Common.{◌∙◌, ◌+◌, ℕ, get_or, set, sym, ap, arith}
use Rattle.iddqd_order.specs.Row.{entries_in, position, BlocksValue}
use Rattle.iddqd_sorted.specs.declared.entry.Entry.{Entry}
use Rattle.iddqd_sorted.specs.Renumbered.{renumbered}
use Rattle.iddqd_sorted.proofs.Shrinking.{changed_to, small_here, changed_next}
use Rattle.iddqd_sorted.proofs.map.shrink.renumber.Goals as goal

pub bounds-numbers-number : goal.bounds-numbers-number
bounds-numbers-number g c =
    let at = c.loop-next in
    let e = c.entry_in-entry.result.now in
    let is = rw c.in-Some.is at at.invariant.entries in
    let small = small_here c.args.numbers.now (entries_in c.args.order.now) (entries_in at.order) (position at.order.blocks c.in-Some.place) is c.entry_in-entry.ensures.within e (c.entry_in-entry.ensures.value e) c.requires in
    rw c.number.ensures.value small.0

pub offset_bounds-numbers-number : goal.offset_bounds-numbers-number
offset_bounds-numbers-number g c =
    let at = c.loop-next in
    let e = c.entry_in-entry.result.now in
    let is = rw c.in-Some.is at at.invariant.entries in
    let small = small_here c.args.numbers.now (entries_in c.args.order.now) (entries_in at.order) (position at.order.blocks c.in-Some.place) is c.entry_in-entry.ensures.within e (c.entry_in-entry.ensures.value e) c.requires in
    omega (arith, small.0, c.number.ensures.value)

pub new-slot-requires : goal.new-slot-requires
new-slot-requires g c =
    let at = c.loop-next in
    let e = c.entry_in-entry.result.now in
    let is = rw c.in-Some.is at at.invariant.entries in
    let small = small_here c.args.numbers.now (entries_in c.args.order.now) (entries_in at.order) (position at.order.blocks c.in-Some.place) is c.entry_in-entry.ensures.within e (c.entry_in-entry.ensures.value e) c.requires in
    rw c.number.ensures.value small.1

pub loop-next-preserved : goal.loop-next-preserved
loop-next-preserved g c =
    let at = c.loop-next in
    let e = c.entry_in-entry.result.now in
    let is = rw c.in-Some.is at at.invariant.entries in
    let now = entries_in at.order in
    let es = entries_in c.args.order.now in
    let numbers = c.args.numbers.now in
    let i = position at.order.blocks c.in-Some.place in
    let next = changed_next numbers es now i is c.entry_in-entry.ensures.within e (c.entry_in-entry.ensures.value e) in
    let slot = c.new-slot.ensures ∙ ap (λ (n : ℕ). get_or numbers n 0) c.number.ensures.value in
    let put = c.replace.ensures.entries ∙ ap (λ (s : ℕ). set now i (record { sort_key = e.sort_key; slot = s })) slot in
    let index = c.next-next.ensures.index ∙ ap (λ (n : ℕ). n + 1) c.replace.ensures.at in
    record {
      entry = c.next-next.ensures.entry;
      entries = put ∙ (next ∙ sym (ap (changed_to (renumbered numbers) es) index));
      capacity = ap (λ (o : BlocksValue (Entry g.row.K.Denot)). o.capacity) c.replace.ensures.replaced ∙ at.invariant.capacity;
    }
