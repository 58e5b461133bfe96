use Rattle.std.proofs.Common.{arith}
use Rattle.std.proofs.lemmas.List.Sorted.{IsPermutation-cons, IsPermutation-sym, IsPermutation-trans}
use Rattle.iddqd_store.proofs.SlotLemmas.Contents.{length-contents}
use Rattle.iddqd_order.specs.Row.{line}
use Rattle.iddqd_sorted.proofs.Listed.{IsPermutation-listed}
use Rattle.iddqd_sorted.proofs.Settling.{IsListed-taken}
use Rattle.iddqd_sorted.proofs.Sorting.{total}
use Rattle.iddqd_sorted.proofs.map.Sorted.remove_slot.Goals as goal

pub invariant_of-self : goal.invariant_of-self
invariant_of-self g c =
    let all = total g.M.Item.Sortable.sort_key g.met.M.Item.SortKey.Ord.total g.M.SlotMap.first_key g.met.M.FirstKey.Ord.total in
    let gone = c.remove_at-gone.ensures in
    rw c.remove.ensures.rest (IsListed-taken all g.M.Item.Sortable.sort_key (g.M.SlotMap.shown c.self.inside.map).slots (line c.self.inside.order.blocks) c.self.invariant _ c.remove_at-gone.result gone.value _ c.place_of_slot-place.ensures.within c.place_of_slot-place.ensures.slot (g.M.SlotMap.shown c.remove_at-gone.new.self).slots gone.updates gone.loses.items)

pub returns-clause-left : goal.returns-clause-left
returns-clause-left g c =
    let all = total g.M.Item.Sortable.sort_key g.met.M.Item.SortKey.Ord.total g.M.SlotMap.first_key g.met.M.FirstKey.Ord.total in
    let held = IsPermutation-listed all g.M.Item.Sortable.sort_key (g.M.SlotMap.shown c.self.inside.map).slots (line c.self.inside.order.blocks) c.self.invariant in
    let rest = IsPermutation-listed all g.M.Item.Sortable.sort_key (g.M.SlotMap.shown c.remove_at-gone.new.self).slots (line c.remove.new.self.blocks) (invariant_of-self g c) in
    rw (← c.self.view_is) (IsPermutation-trans _ _ _ (IsPermutation-sym _ _ held) (IsPermutation-trans _ _ _ c.remove_at-gone.ensures.loses.items (IsPermutation-cons c.remove_at-gone.result _ _ rest)))

pub returns-clause-ascending : goal.returns-clause-ascending
returns-clause-ascending g c = (invariant_of-self g c).ascending

pub returns-clause-asked : goal.returns-clause-asked
returns-clause-asked g c = λ r few.
    (let few_slots = rw (← c.self.view_is) at few in
    omega (arith, c.place_of_slot-place.ensures.asked r (omega (arith, c.self.invariant.counted, length-contents (g.M.SlotMap.shown c.self.inside.map).slots, few_slots))))
