use Rattle.std.proofs.Common.{◌≡◌, ◌∙◌, Some, sym, ap, arith}
use Rattle.std.specs.Prelude.{slice_set}
use Rattle.iddqd_store.specs.Map.{Map}
use Rattle.iddqd_store.specs.Map.Written.{of_item}
use Rattle.iddqd_store.specs.Slots.{contents, get}
use Rattle.iddqd_order.specs.Row.{line, position}
use Rattle.iddqd_sorted.specs.Items.{by_sort, with_item}
use Rattle.iddqd_sorted.proofs.Exchanged.{put, as_many, others_left, others_items, free_swapped}
use Rattle.iddqd_sorted.proofs.Listed.{long}
use Rattle.iddqd_sorted.proofs.Settling.{item_at_slot}
use Rattle.iddqd_sorted.proofs.Sorting.{total}
use Rattle.iddqd_sorted.proofs.map.Sorted.put_moved.Goals as goal

pub replace_at-gone-requires-clause-same_keys : goal.replace_at-gone-requires-clause-same_keys
replace_at-gone-requires-clause-same_keys g c = rw (← c.self.view_is) at c.requires.same_keys

pub resettle-requires-clause-others : goal.resettle-requires-clause-others
resettle-requires-clause-others g c =
    let all = total g.M.Item.Sortable.sort_key g.met.M.Item.SortKey.Ord.total g.M.SlotMap.first_key g.met.M.FirstKey.Ord.total in
    let slots = (g.M.SlotMap.shown c.self.inside.map).slots in
    let slot = c.args.slot in
    let y = c.args.item in
    let at = c.place_of_slot-place.ensures in
    let gone = c.replace_at-gone.result in
    let had = c.replace_at-gone.ensures.value in
    let set = ap (λ (m : Map g.row.M-Item.Denot g.row.M-Builder.Denot). m.slots) c.replace_at-gone.ensures.new ∙ ap (λ o. slice_set slots slot (of_item (λ _. y) o)) had in
    rw set (others_left all g.M.Item.Sortable.sort_key slots (line c.self.inside.order.blocks) c.self.invariant slot gone _ at.within at.slot (slice_set slots slot (Some y)) y (put slots slot gone y had) (as_many slots slot gone y had))

pub resettle-requires-clause-free : goal.resettle-requires-clause-free
resettle-requires-clause-free g c = λ z is.
    (let slots = (g.M.SlotMap.shown c.self.inside.map).slots in
    let new = (g.M.SlotMap.shown c.replace_at-gone.new.self).slots in
    let slot = c.args.slot in
    let y = c.args.item in
    let gone = c.replace_at-gone.result in
    let had = c.replace_at-gone.ensures.value in
    let set = ap (λ (m : Map g.row.M-Item.Denot g.row.M-Builder.Denot). m.slots) c.replace_at-gone.ensures.new ∙ ap (λ o. slice_set slots slot (of_item (λ _. y) o)) had in
    let has : get new slot ≡ Some y = rw set ((put slots slot gone y had).changed) in
    let one : y ≡ z = cc (sym has ∙ is) in
    rw (← one) (free_swapped g.M.SlotMap.ranks g.met.M.SlotMap.lawful (contents slots) new slot gone y has c.replace_at-gone.ensures.swaps (rw (← c.self.view_is) at c.requires.same_keys gone had)))

pub invariant_of-self : goal.invariant_of-self
invariant_of-self g c = c.resettle.ensures.settles.listed

pub returns-clause-value : goal.returns-clause-value
returns-clause-value g c = rw (← c.self.view_is) c.replace_at-gone.ensures.value

pub returns-clause-puts : goal.returns-clause-puts
returns-clause-puts g c =
    let all = total g.M.Item.Sortable.sort_key g.met.M.Item.SortKey.Ord.total g.M.SlotMap.first_key g.met.M.FirstKey.Ord.total in
    let slots = (g.M.SlotMap.shown c.self.inside.map).slots in
    let es = line c.self.inside.order.blocks in
    let new = (g.M.SlotMap.shown c.replace_at-gone.new.self).slots in
    let slot = c.args.slot in
    let y = c.args.item in
    let at = c.place_of_slot-place.ensures in
    let p = position c.self.inside.order.blocks c.place_of_slot-place.result in
    let gone = c.replace_at-gone.result in
    let had = c.replace_at-gone.ensures.value in
    let set = ap (λ (m : Map g.row.M-Item.Denot g.row.M-Builder.Denot). m.slots) c.replace_at-gone.ensures.new ∙ ap (λ o. slice_set slots slot (of_item (λ _. y) o)) had in
    let has : get new slot ≡ Some y = rw set ((put slots slot gone y had).changed) in
    let left = others_items all g.M.Item.Sortable.sort_key slots es c.self.invariant slot gone p at.within at.slot (slice_set slots slot (Some y)) y (put slots slot gone y had) (as_many slots slot gone y had) in
    let lists = rw set at (c.resettle.ensures.settles.items y has) in
    rw (← c.self.view_is) (
      p,
      omega (arith, at.within, long all g.M.Item.Sortable.sort_key slots es c.self.invariant),
      (λ d. item_at_slot all g.M.Item.Sortable.sort_key slots es c.self.invariant slot gone had p at.within at.slot d),
      rw set (lists ∙ ap (λ l. with_item (by_sort g.M.Item.Sortable.sort_key g.M.Item.SortKey.Ord.cmp g.M.SlotMap.first_key g.M.FirstKey.Ord.cmp) l y) left),
    )

pub returns-clause-asked : goal.returns-clause-asked
returns-clause-asked g c = λ r few.
    (let all = total g.M.Item.Sortable.sort_key g.met.M.Item.SortKey.Ord.total g.M.SlotMap.first_key g.met.M.FirstKey.Ord.total in
    let few_items = rw (← c.self.view_is) at few in
    let entries = long all g.M.Item.Sortable.sort_key (g.M.SlotMap.shown c.self.inside.map).slots (line c.self.inside.order.blocks) c.self.invariant in
    omega (arith, c.place_of_slot-place.ensures.asked r (omega (arith, entries, few_items)), c.resettle.ensures.asked r (omega (arith, entries, few_items))))
