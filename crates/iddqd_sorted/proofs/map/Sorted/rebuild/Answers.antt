use Rattle.std.proofs.Common.{◌∙◌, ℕ, List, length, drop, ap, arith}
use Rattle.std.specs.Prelude.{map}
use Rattle.std.proofs.lemmas.List.{length-map, take_at}
use Rattle.iddqd_store.proofs.SlotLemmas.Contents.{length-contents}
use Rattle.iddqd_order.specs.Row.{line}
use Rattle.iddqd_order.proofs.FilterLemmas.{err_for_all}
use Rattle.iddqd_sorted.specs.declared.entry.Entry.{Entry}
use Rattle.iddqd_sorted.specs.Entries.{items_in}
use Rattle.iddqd_sorted.specs.Items.{SortedValue, items}
use Rattle.iddqd_sorted.specs.Renumbered.{renumbered}
use Rattle.iddqd_sorted.proofs.Listed.{counted-items, long}
use Rattle.iddqd_sorted.proofs.Shrinking.{marked-all, are_small, items-renumbered, IsListed-renumbered}
use Rattle.iddqd_sorted.proofs.Sorting.{total}
use Rattle.iddqd_sorted.proofs.map.Sorted.rebuild.Goals as goal

pub returns-in_err-numbers-clause-reason : goal.returns-in_err-numbers-clause-reason
returns-in_err-numbers-clause-reason g c =
    let o = total g.M.Item.Sortable.sort_key g.met.M.Item.SortKey.Ord.total g.M.SlotMap.first_key g.met.M.FirstKey.Ord.total in
    let slots = (g.M.SlotMap.shown c.self.inside.map).slots in
    let es = line c.self.inside.order.blocks in
    let enough = rw (← c.self.view_is) at c.requires.enough in
    let some = rw c.slots.ensures at c.in_err-numbers.ensures.reason in
    err_for_all c.from_residual.result (omega (arith, enough, counted-items o g.M.Item.Sortable.sort_key slots es c.self.invariant, length-contents slots, some))

pub returns-in_err-shrink_to-clause-reason : goal.returns-in_err-shrink_to-clause-reason
returns-in_err-shrink_to-clause-reason g c =
    let o = total g.M.Item.Sortable.sort_key g.met.M.Item.SortKey.Ord.total g.M.SlotMap.first_key g.met.M.FirstKey.Ord.total in
    let slots = (g.M.SlotMap.shown c.self.inside.map).slots in
    let es = line c.self.inside.order.blocks in
    let enough = rw (← c.self.view_is) at c.requires.enough in
    err_for_all c.from_residual-in_err-shrink_to.result (omega (arith, enough, counted-items o g.M.Item.Sortable.sort_key slots es c.self.invariant, c.in_err-shrink_to.ensures.reason))

pub number_marked-requires : goal.number_marked-requires
number_marked-requires g c =
    let slots = (g.M.SlotMap.shown c.self.inside.map).slots in
    let marks = rw c.slots.ensures at c.in_ok-numbers.ensures.marks in
    rw (c.deref_mut.ensures.value, c.slots-2.ensures) (omega (arith, marked-all slots c.in_ok-numbers.numbers.items marks, ap length c.in_ok-shrink_to.ensures.items))

pub renumber-requires : goal.renumber-requires
renumber-requires g c =
    let old = (g.M.SlotMap.shown c.self.inside.map).slots in
    let new = (g.M.SlotMap.shown c.shrink_to.new.self).slots in
    let es = line c.self.inside.order.blocks in
    let marks = rw c.slots.ensures at c.in_ok-numbers.ensures.marks in
    let named = rw (c.slots-2.ensures, c.deref_mut.ensures.value) at c.number_marked.ensures in
    let kept = c.deref.ensures.value ∙ take_at c.number_marked.new.marks (drop (length c.number_marked.new.marks) c.in_ok-numbers.numbers.items) c.in_ok-numbers.numbers.len
    (omega (arith, c.number_marked.ensures.length, c.deref_mut.ensures.len)) in
    rw kept (are_small old new c.in_ok-numbers.numbers.items c.number_marked.new.marks marks named c.in_ok-shrink_to.ensures.items g.M.Item.Sortable.sort_key es c.self.invariant)

pub lower_capacity-requires-clause-fits : goal.lower_capacity-requires-clause-fits
lower_capacity-requires-clause-fits g c =
    let o = total g.M.Item.Sortable.sort_key g.met.M.Item.SortKey.Ord.total g.M.SlotMap.first_key g.met.M.FirstKey.Ord.total in
    let old = (g.M.SlotMap.shown c.self.inside.map).slots in
    let es = line c.self.inside.order.blocks in
    let enough = rw (← c.self.view_is) at c.requires.enough in
    rw c.renumber.ensures.entries (omega (arith, enough, long o g.M.Item.Sortable.sort_key old es c.self.invariant, length-map es (renumbered c.deref.result.now)))

pub invariant_of-self-2 : goal.invariant_of-self-2
invariant_of-self-2 g c =
    let old = (g.M.SlotMap.shown c.self.inside.map).slots in
    let new = (g.M.SlotMap.shown c.shrink_to.new.self).slots in
    let es = line c.self.inside.order.blocks in
    let marks = rw c.slots.ensures at c.in_ok-numbers.ensures.marks in
    let named = rw (c.slots-2.ensures, c.deref_mut.ensures.value) at c.number_marked.ensures in
    let kept = c.deref.ensures.value ∙ take_at c.number_marked.new.marks (drop (length c.number_marked.new.marks) c.in_ok-numbers.numbers.items) c.in_ok-numbers.numbers.len
    (omega (arith, c.number_marked.ensures.length, c.deref_mut.ensures.len)) in
    rw (c.lower_capacity.ensures.blocks, c.renumber.ensures.entries, kept)
    (IsListed-renumbered old new c.in_ok-numbers.numbers.items c.number_marked.new.marks marks named c.in_ok-shrink_to.ensures.items g.M.Item.Sortable.sort_key es c.self.invariant)

pub returns-clause-items : goal.returns-clause-items
returns-clause-items g c =
    let old = (g.M.SlotMap.shown c.self.inside.map).slots in
    let new = (g.M.SlotMap.shown c.shrink_to.new.self).slots in
    let es = line c.self.inside.order.blocks in
    let marks = rw c.slots.ensures at c.in_ok-numbers.ensures.marks in
    let named = rw (c.slots-2.ensures, c.deref_mut.ensures.value) at c.number_marked.ensures in
    let same = items-renumbered old new c.in_ok-numbers.numbers.items c.number_marked.new.marks marks named c.in_ok-shrink_to.ensures.items g.M.Item.Sortable.sort_key es c.self.invariant in
    let kept = c.deref.ensures.value ∙ take_at c.number_marked.new.marks (drop (length c.number_marked.new.marks) c.in_ok-numbers.numbers.items) c.in_ok-numbers.numbers.len
    (omega (arith, c.number_marked.ensures.length, c.deref_mut.ensures.len)) in
    let listed = c.renumber.ensures.entries ∙ ap (λ (n : List ℕ). map (renumbered n) es) kept in
    ap (λ (b : List (List (Entry g.row.M-Item-SortKey.Denot))). items_in new (line b)) c.lower_capacity.ensures.blocks
    ∙ ap (items_in new) listed ∙ same ∙ ap (λ (m : SortedValue g.row.M-Item.Denot g.row.M-Item-SortKey.Denot g.row.M-Builder.Denot). items m) c.self.view_is
