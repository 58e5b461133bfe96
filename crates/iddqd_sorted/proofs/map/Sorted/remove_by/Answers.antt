use Rattle.std.proofs.Common.{◌∙◌, None, refl, arith}
use Rattle.iddqd_order.specs.Row.{line, position}
use Rattle.iddqd_store.proofs.RankLemmas.Costs.{SearchCosts-room}
use Rattle.iddqd_sorted.proofs.Keyed.{only_none, others_none, only_some, others_some, removing}
use Rattle.iddqd_sorted.proofs.Listed.{long}
use Rattle.iddqd_sorted.proofs.Settling.{IsListed-taken, items-taken}
use Rattle.iddqd_sorted.proofs.Sorting.{total}
use Rattle.iddqd_sorted.proofs.map.Sorted.remove_by.Goals as goal

pub returns-in_default-clause-taken : goal.returns-in_default-clause-taken
returns-in_default-clause-taken g c =
    let all = total g.M.Item.Sortable.sort_key g.met.M.Item.SortKey.Ord.total g.M.SlotMap.first_key g.met.M.FirstKey.Ord.total in
    rw (← c.self.view_is) (only_none all g.M.Item.Sortable.sort_key (g.M.SlotMap.shown c.self.inside.map).slots (line c.self.inside.order.blocks) c.self.invariant _ c.in_default.ensures.found)

pub returns-in_default-clause-rest : goal.returns-in_default-clause-rest
returns-in_default-clause-rest g c =
    let all = total g.M.Item.Sortable.sort_key g.met.M.Item.SortKey.Ord.total g.M.SlotMap.first_key g.met.M.FirstKey.Ord.total in
    rw (← c.self.view_is) (others_none all g.M.Item.Sortable.sort_key (g.M.SlotMap.shown c.self.inside.map).slots (line c.self.inside.order.blocks) c.self.invariant _ c.in_default.ensures.found)

pub returns-in_default-clause-costs : goal.returns-in_default-clause-costs
returns-in_default-clause-costs g c =
    rw (← c.self.view_is) (record {
      slot = None;
      between = c.slot_by.new.costs.probed;
      search = SearchCosts-room _ (omega arith) c.in_default.ensures.costs;
      rest = omega arith;
      absent = refl;
    })

pub invariant_of-self : goal.invariant_of-self
invariant_of-self g c =
    let all = total g.M.Item.Sortable.sort_key g.met.M.Item.SortKey.Ord.total g.M.SlotMap.first_key g.met.M.FirstKey.Ord.total in
    let gone = c.remove_by-gone.ensures in
    rw c.remove.ensures.rest (IsListed-taken all g.M.Item.Sortable.sort_key (g.M.SlotMap.shown c.self.inside.map).slots (line c.self.inside.order.blocks) c.self.invariant _ c.remove_by-gone.result gone.value _ c.place_of_slot-place.ensures.within c.place_of_slot-place.ensures.slot (g.M.SlotMap.shown c.remove_by-gone.new.self).slots gone.updates gone.loses.items)

pub returns-clause-taken : goal.returns-clause-taken
returns-clause-taken g c =
    let all = total g.M.Item.Sortable.sort_key g.met.M.Item.SortKey.Ord.total g.M.SlotMap.first_key g.met.M.FirstKey.Ord.total in
    rw (← c.self.view_is) (only_some all g.M.Item.Sortable.sort_key (g.M.SlotMap.shown c.self.inside.map).slots (line c.self.inside.order.blocks) c.self.invariant _ _ c.in-Some.ensures.found c.remove_by-gone.result c.remove_by-gone.ensures.value)

pub returns-clause-rest : goal.returns-clause-rest
returns-clause-rest g c =
    let all = total g.M.Item.Sortable.sort_key g.met.M.Item.SortKey.Ord.total g.M.SlotMap.first_key g.met.M.FirstKey.Ord.total in
    let slots = (g.M.SlotMap.shown c.self.inside.map).slots in
    let es = line c.self.inside.order.blocks in
    let gone = c.remove_by-gone.ensures in
    let at = c.place_of_slot-place.ensures in
    let p = position c.self.inside.order.blocks c.place_of_slot-place.result in
    let left = items-taken all g.M.Item.Sortable.sort_key slots es c.self.invariant _ c.remove_by-gone.result gone.value p at.within at.slot (g.M.SlotMap.shown c.remove_by-gone.new.self).slots gone.updates in
    rw (c.remove.ensures.rest, ← c.self.view_is) (left ∙ others_some all g.M.Item.Sortable.sort_key slots es c.self.invariant _ _ c.in-Some.ensures.found c.remove_by-gone.result gone.value p at.within at.slot)

pub returns-clause-asked : goal.returns-clause-asked
returns-clause-asked g c = λ r few.
    (let all = total g.M.Item.Sortable.sort_key g.met.M.Item.SortKey.Ord.total g.M.SlotMap.first_key g.met.M.FirstKey.Ord.total in
    let few_items = rw (← c.self.view_is) at few in
    omega (arith, c.place_of_slot-place.ensures.asked r (omega (arith, long all g.M.Item.Sortable.sort_key (g.M.SlotMap.shown c.self.inside.map).slots (line c.self.inside.order.blocks) c.self.invariant, few_items))))

pub returns-clause-costs : goal.returns-clause-costs
returns-clause-costs g c =
    let searched = rw (← c.costs.view_is) at c.in-Some.ensures.costs in
    rw (← c.self.view_is) (removing c.costs.inside.probed (SearchCosts-room _ (omega arith) searched) c.remove_by-gone.ensures.costs tt)
