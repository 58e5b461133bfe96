use Rattle.std.proofs.Common.{◌∙◌, Some, ap, arith}
use Rattle.std.specs.Prelude.{slice_set}
use Rattle.iddqd_store.specs.Map.{Map}
use Rattle.iddqd_store.specs.Map.Written.{of_item}
use Rattle.iddqd_order.specs.Row.{line}
use Rattle.iddqd_sorted.specs.Items.{by_sort, with_item}
use Rattle.iddqd_sorted.proofs.Exchanged.{put, as_many}
use Rattle.iddqd_sorted.proofs.Kept.{alike_keys, one_level, place, place_within, place_slot, items_kept, settles_kept}
use Rattle.iddqd_sorted.proofs.Listed.{long}
use Rattle.iddqd_sorted.proofs.Settling.{item_at_slot}
use Rattle.iddqd_sorted.proofs.Sorting.{total}
use Rattle.iddqd_sorted.proofs.map.Sorted.put_level.Goals as goal

pub replace_at-requires-clause-same_keys : goal.replace_at-requires-clause-same_keys
replace_at-requires-clause-same_keys g c = rw (← c.self.view_is) at c.requires.same_keys

pub invariant_of-self : goal.invariant_of-self
invariant_of-self g c =
    let sort = g.M.Item.Sortable.sort_key in
    let key = g.M.SlotMap.first_key in
    let cmp_key = g.M.FirstKey.Ord.cmp in
    let all = total sort g.met.M.Item.SortKey.Ord.total key g.met.M.FirstKey.Ord.total in
    let slots = (g.M.SlotMap.shown c.self.inside.map).slots in
    let es = line c.self.inside.order.blocks in
    let slot = c.args.slot in
    let y = c.args.item in
    let gone = c.replace_at.result in
    let had = c.replace_at.ensures.value in
    let set = ap (λ (m : Map g.row.M-Item.Denot g.row.M-Builder.Denot). m.slots) c.replace_at.ensures.new ∙ ap (λ o. slice_set slots slot (of_item (λ _. y) o)) had in
    let level = rw (← c.self.view_is) at c.requires.level gone had in
    let new = slice_set slots slot (Some y) in
    let kept = settles_kept all sort slots es c.self.invariant slot gone had new y (put slots slot gone y had) (as_many slots slot gone y had)
    (one_level (by_sort sort g.M.Item.SortKey.Ord.cmp key cmp_key) gone y level) (alike_keys sort g.met.M.Item.SortKey.Ord.total key cmp_key gone y level) in
    rw set (kept.listed)

pub returns-clause-value : goal.returns-clause-value
returns-clause-value g c = rw (← c.self.view_is) c.replace_at.ensures.value

pub returns-clause-puts : goal.returns-clause-puts
returns-clause-puts g c =
    let sort = g.M.Item.Sortable.sort_key in
    let key = g.M.SlotMap.first_key in
    let cmp_key = g.M.FirstKey.Ord.cmp in
    let all = total sort g.met.M.Item.SortKey.Ord.total key g.met.M.FirstKey.Ord.total in
    let slots = (g.M.SlotMap.shown c.self.inside.map).slots in
    let es = line c.self.inside.order.blocks in
    let slot = c.args.slot in
    let y = c.args.item in
    let gone = c.replace_at.result in
    let had = c.replace_at.ensures.value in
    let set = ap (λ (m : Map g.row.M-Item.Denot g.row.M-Builder.Denot). m.slots) c.replace_at.ensures.new ∙ ap (λ o. slice_set slots slot (of_item (λ _. y) o)) had in
    let level = rw (← c.self.view_is) at c.requires.level gone had in
    let new = slice_set slots slot (Some y) in
    let kept = settles_kept all sort slots es c.self.invariant slot gone had new y (put slots slot gone y had) (as_many slots slot gone y had)
    (one_level (by_sort sort g.M.Item.SortKey.Ord.cmp key cmp_key) gone y level) (alike_keys sort g.met.M.Item.SortKey.Ord.total key cmp_key gone y level) in
    let at = place all sort slots es c.self.invariant slot gone had in
    let within = place_within all sort slots es c.self.invariant slot gone had in
    let leads = place_slot all sort slots es c.self.invariant slot gone had in
    let left = items_kept all sort slots es c.self.invariant slot gone had new y (put slots slot gone y had) (as_many slots slot gone y had)
    (one_level (by_sort sort g.M.Item.SortKey.Ord.cmp key cmp_key) gone y level) (alike_keys sort g.met.M.Item.SortKey.Ord.total key cmp_key gone y level) in
    rw (← c.self.view_is) (
      at,
      omega (arith, within, long all sort slots es c.self.invariant),
      (λ d. item_at_slot all sort slots es c.self.invariant slot gone had at within leads d),
      rw set (kept.items y ((put slots slot gone y had).changed) ∙ ap (λ l. with_item (by_sort sort g.M.Item.SortKey.Ord.cmp key cmp_key) l y) left),
    )
