use Rattle.std.proofs.Common.{◌≡◌, ◌∙◌, true, false, sym, ap, length, rules, arith, None, set}
use Rattle.std.specs.List.{remove}
use Rattle.std.specs.Ordering.{is_eq}
use Rattle.std.proofs.lemmas.Bool.{false≢true}
use Rattle.std.proofs.lemmas.List.Sorted.{length_permutation}
use Rattle.iddqd_order.specs.Row.{line, position}
use Rattle.iddqd_store.specs.Slots.{contents}
use Rattle.iddqd_store.proofs.RankLemmas.Costs.{SearchCosts-room}
use Rattle.iddqd_store.proofs.SlotLemmas.Contents.{contents-take}
use Rattle.iddqd_sorted.specs.Items.{by_sort, with_item}
use Rattle.iddqd_sorted.proofs.Exchanged.{others_left, others_items, free_taken}
use Rattle.iddqd_sorted.proofs.Kept.{alike_keys, one_level, place, place_within, place_slot, others_kept, items_kept, settles_kept}
use Rattle.iddqd_sorted.proofs.Keyed.{only_none, only_some, others_some, blocked, blocked_found, rekeying}
use Rattle.iddqd_store.specs.Bag.{do_conflict}
use Rattle.iddqd_sorted.proofs.Finding.{none-permutation}
use Rattle.iddqd_sorted.proofs.Listed.{long, IsPermutation-listed}
use Rattle.iddqd_sorted.proofs.Sorting.{total}
use Rattle.iddqd_sorted.proofs.map.Sorted.rekey_by.Goals.{in-Ok-rekey_at, in-Err-rekey_at}
use Rattle.iddqd_sorted.proofs.map.Sorted.rekey_by.Goals as goal

pub returns-in_default-clause-reason : goal.returns-in_default-clause-reason
returns-in_default-clause-reason g c =
    let all = total g.M.Item.Sortable.sort_key g.met.M.Item.SortKey.Ord.total g.M.SlotMap.first_key g.met.M.FirstKey.Ord.total in
    rw (← c.self.view_is) (only_none all g.M.Item.Sortable.sort_key (g.M.SlotMap.shown c.self.inside.map).slots (line c.self.inside.order.blocks) c.self.invariant _ c.in_default.ensures.found)

pub returns-in_default-clause-costs : goal.returns-in_default-clause-costs
returns-in_default-clause-costs g c = rw (← c.self.view_is) (SearchCosts-room _ (omega arith) c.in_default.ensures.costs)

pub resettle-requires-clause-others : goal.resettle-requires-clause-others
resettle-requires-clause-others g c =
    let all = total g.M.Item.Sortable.sort_key g.met.M.Item.SortKey.Ord.total g.M.SlotMap.first_key g.met.M.FirstKey.Ord.total in
    let slots = (g.M.SlotMap.shown c.self.inside.map).slots in
    let new = (g.M.SlotMap.shown c.rekey_at.new.self).slots in
    let at = c.place_of_slot-place.ensures in
    let put = c.in-Ok.ensures in
    let many : length (contents new) ≡ length (contents slots) = omega (arith, length_permutation _ _ put.puts_at.items, length_permutation _ _ (contents-take slots _ c.in-Ok.gone put.value)) in
    others_left all g.M.Item.Sortable.sort_key slots (line c.self.inside.order.blocks) c.self.invariant _ c.in-Ok.gone _ at.within at.slot new c.args.item put.updates many

pub resettle-requires-clause-free : goal.resettle-requires-clause-free
resettle-requires-clause-free g c = λ x is.
    free_taken g.M.SlotMap.ranks g.met.M.SlotMap.lawful (g.M.SlotMap.shown c.rekey_at.new.self).slots _ x is c.in-Ok.ensures.puts_at.sound

pub invariant_of-self : goal.invariant_of-self
invariant_of-self g c = c.resettle.ensures.settles.listed

pub returns-in-Ok-clause-found : goal.returns-in-Ok-clause-found
returns-in-Ok-clause-found g c =
    let all = total g.M.Item.Sortable.sort_key g.met.M.Item.SortKey.Ord.total g.M.SlotMap.first_key g.met.M.FirstKey.Ord.total in
    rw (← c.self.view_is) (only_some all g.M.Item.Sortable.sort_key (g.M.SlotMap.shown c.self.inside.map).slots (line c.self.inside.order.blocks) c.self.invariant _ _ c.in-Some.ensures.found c.in-Ok.gone c.in-Ok.ensures.value)

pub returns-in-Ok-clause-puts : goal.returns-in-Ok-clause-puts
returns-in-Ok-clause-puts g c =
    let all = total g.M.Item.Sortable.sort_key g.met.M.Item.SortKey.Ord.total g.M.SlotMap.first_key g.met.M.FirstKey.Ord.total in
    let slots = (g.M.SlotMap.shown c.self.inside.map).slots in
    let es = line c.self.inside.order.blocks in
    let new = (g.M.SlotMap.shown c.rekey_at.new.self).slots in
    let at = c.place_of_slot-place.ensures in
    let p = position c.self.inside.order.blocks c.place_of_slot-place.result in
    let put = c.in-Ok.ensures in
    let many : length (contents new) ≡ length (contents slots) = omega (arith, length_permutation _ _ put.puts_at.items, length_permutation _ _ (contents-take slots _ c.in-Ok.gone put.value)) in
    let left = others_items all g.M.Item.Sortable.sort_key slots es c.self.invariant _ c.in-Ok.gone p at.within at.slot new c.args.item put.updates many in
    let others = others_some all g.M.Item.Sortable.sort_key slots es c.self.invariant _ _ c.in-Some.ensures.found c.in-Ok.gone put.value p at.within at.slot in
    rw (← c.self.view_is) (c.resettle.ensures.settles.items c.args.item put.updates.changed ∙ ap (λ l. with_item (by_sort g.M.Item.Sortable.sort_key g.M.Item.SortKey.Ord.cmp g.M.SlotMap.first_key g.M.FirstKey.Ord.cmp) l c.args.item) (left ∙ others))

pub returns-in-Err-clause-reason : goal.returns-in-Err-clause-reason
returns-in-Err-clause-reason g c =
    let all = total g.M.Item.Sortable.sort_key g.met.M.Item.SortKey.Ord.total g.M.SlotMap.first_key g.met.M.FirstKey.Ord.total in
    let at = c.place_of_slot-place.ensures in
    rw (← c.self.view_is) (blocked all g.M.Item.Sortable.sort_key (g.M.SlotMap.shown c.self.inside.map).slots (line c.self.inside.order.blocks) c.self.invariant _ _ c.in-Some.ensures.found _ at.within at.slot g.M.SlotMap.ranks c.args.item c.in-Err.ensures.reason)

pub returns-in-Ok-clause-asked : goal.returns-in-Ok-clause-asked
returns-in-Ok-clause-asked g c = λ r few.
    (let all = total g.M.Item.Sortable.sort_key g.met.M.Item.SortKey.Ord.total g.M.SlotMap.first_key g.met.M.FirstKey.Ord.total in
    let few_items = rw (← c.self.view_is) at few in
    let entries = long all g.M.Item.Sortable.sort_key (g.M.SlotMap.shown c.self.inside.map).slots (line c.self.inside.order.blocks) c.self.invariant in
    omega (arith, c.is_level.ensures.asked, c.place_of_slot-place.ensures.asked r (omega (arith, entries, few_items)), c.resettle.ensures.asked r (omega (arith, entries, few_items))))

pub returns-in-Err-clause-asked : goal.returns-in-Err-clause-asked
returns-in-Err-clause-asked g c = λ r few.
    (let all = total g.M.Item.Sortable.sort_key g.met.M.Item.SortKey.Ord.total g.M.SlotMap.first_key g.met.M.FirstKey.Ord.total in
    let few_items = rw (← c.self.view_is) at few in
    let entries = long all g.M.Item.Sortable.sort_key (g.M.SlotMap.shown c.self.inside.map).slots (line c.self.inside.order.blocks) c.self.invariant in
    omega (arith, c.is_level.ensures.asked, c.place_of_slot-place.ensures.asked r (omega (arith, entries, few_items))))

pub returns-in-Ok-clause-costs : goal.returns-in-Ok-clause-costs
returns-in-Ok-clause-costs g c = rw (← c.self.view_is) (rekeying _ (omega arith) c.in-Some.ensures.costs c.rekey_at.ensures.costs)

pub returns-in-Err-clause-costs : goal.returns-in-Err-clause-costs
returns-in-Err-clause-costs g c = rw (← c.self.view_is) (rekeying _ (omega arith) c.in-Some.ensures.costs c.rekey_at.ensures.costs)

pub returns-in-Ok-clause-free : goal.returns-in-Ok-clause-free
returns-in-Ok-clause-free g c =
    let all = total g.M.Item.Sortable.sort_key g.met.M.Item.SortKey.Ord.total g.M.SlotMap.first_key g.met.M.FirstKey.Ord.total in
    let slots = (g.M.SlotMap.shown c.self.inside.map).slots in
    let es = line c.self.inside.order.blocks in
    let new = (g.M.SlotMap.shown c.rekey_at.new.self).slots in
    let at = c.place_of_slot-place.ensures in
    let p = position c.self.inside.order.blocks c.place_of_slot-place.result in
    let put = c.in-Ok.ensures in
    let many : length (contents new) ≡ length (contents slots) = omega (arith, length_permutation _ _ put.puts_at.items, length_permutation _ _ (contents-take slots _ c.in-Ok.gone put.value)) in
    let left = others_items all g.M.Item.Sortable.sort_key slots es c.self.invariant _ c.in-Ok.gone p at.within at.slot new c.args.item put.updates many in
    let listed = others_left all g.M.Item.Sortable.sort_key slots es c.self.invariant _ c.in-Ok.gone p at.within at.slot new c.args.item put.updates many in
    let others = others_some all g.M.Item.Sortable.sort_key slots es c.self.invariant _ _ c.in-Some.ensures.found c.in-Ok.gone put.value p at.within at.slot in
    let same = IsPermutation-listed all g.M.Item.Sortable.sort_key _ (remove es p) listed in
    rw (← c.self.view_is) (none-permutation (do_conflict g.M.SlotMap.ranks c.args.item) _ _ (rw (left ∙ others) at same) (free_taken g.M.SlotMap.ranks g.met.M.SlotMap.lawful new _ c.args.item put.updates.changed put.puts_at.sound))

-- an item that moves is not level with the old one
pub returns-in-Ok-clause-asked_once : goal.returns-in-Ok-clause-asked_once
returns-in-Ok-clause-asked_once g c = λ level.
    (let told = c.is_level.ensures.value c.in-Ok.gone (rw (← c.self.view_is) c.in-Ok.ensures.value) in
    let moves : c.is_level.result ≡ false = search rules in
    absurd (false≢true (sym moves ∙ (told ∙ ap is_eq level))))

-- where the new item is level with the old one, the entries stay
pub invariant_of-self-2 : goal.invariant_of-self-2
invariant_of-self-2 g c =
    let sort = g.M.Item.Sortable.sort_key in
    let key = g.M.SlotMap.first_key in
    let cmp_key = g.M.FirstKey.Ord.cmp in
    let by = by_sort sort g.M.Item.SortKey.Ord.cmp key cmp_key in
    let all = total sort g.met.M.Item.SortKey.Ord.total key g.met.M.FirstKey.Ord.total in
    let slots = (g.M.SlotMap.shown c.self.inside.map).slots in
    let es = line c.self.inside.order.blocks in
    let new = (g.M.SlotMap.shown c.rekey_at-2.new.self).slots in
    let stays : c.is_level.result ≡ true = search rules in
    elim c.match-rekey_at-2.branch [
      | in-Ok-rekey_at w ↦
          let put = w.in-Ok-rekey_at.ensures in
          let gone = w.in-Ok-rekey_at.gone in
          let level : is_eq (by gone c.args.item) ≡ true = sym (c.is_level.ensures.value gone (rw (← c.self.view_is) put.value)) ∙ stays in
          let many : length (contents new) ≡ length (contents slots) = omega (arith, length_permutation _ _ put.puts_at.items, length_permutation _ _ (contents-take slots _ gone put.value)) in
          (settles_kept all sort slots es c.self.invariant _ gone put.value new c.args.item put.updates many (one_level by gone c.args.item level) (alike_keys sort g.met.M.Item.SortKey.Ord.total key cmp_key gone c.args.item level)).listed
      | in-Err-rekey_at w ↦ rw w.in-Err-rekey_at.ensures.unchanged c.self.invariant
    ]

pub returns-clause-found : goal.returns-clause-found
returns-clause-found g c =
    let all = total g.M.Item.Sortable.sort_key g.met.M.Item.SortKey.Ord.total g.M.SlotMap.first_key g.met.M.FirstKey.Ord.total in
    elim c.match-rekey_at-2.branch [
      | in-Ok-rekey_at w ↦ rw (w.result-is, ← c.self.view_is) (only_some all g.M.Item.Sortable.sort_key (g.M.SlotMap.shown c.self.inside.map).slots (line c.self.inside.order.blocks) c.self.invariant _ _ c.in-Some.ensures.found w.in-Ok-rekey_at.gone w.in-Ok-rekey_at.ensures.value)
      | in-Err-rekey_at w ↦ rw w.result-is tt
    ]

pub returns-clause-puts : goal.returns-clause-puts
returns-clause-puts g c =
    let sort = g.M.Item.Sortable.sort_key in
    let key = g.M.SlotMap.first_key in
    let cmp_key = g.M.FirstKey.Ord.cmp in
    let by = by_sort sort g.M.Item.SortKey.Ord.cmp key cmp_key in
    let all = total sort g.met.M.Item.SortKey.Ord.total key g.met.M.FirstKey.Ord.total in
    let slots = (g.M.SlotMap.shown c.self.inside.map).slots in
    let es = line c.self.inside.order.blocks in
    let new = (g.M.SlotMap.shown c.rekey_at-2.new.self).slots in
    let stays : c.is_level.result ≡ true = search rules in
    elim c.match-rekey_at-2.branch [
      | in-Ok-rekey_at w ↦
          let put = w.in-Ok-rekey_at.ensures in
          let gone = w.in-Ok-rekey_at.gone in
          let level : is_eq (by gone c.args.item) ≡ true = sym (c.is_level.ensures.value gone (rw (← c.self.view_is) put.value)) ∙ stays in
          let same = one_level by gone c.args.item level in
          let alike = alike_keys sort g.met.M.Item.SortKey.Ord.total key cmp_key gone c.args.item level in
          let many : length (contents new) ≡ length (contents slots) = omega (arith, length_permutation _ _ put.puts_at.items, length_permutation _ _ (contents-take slots _ gone put.value)) in
          let kept = settles_kept all sort slots es c.self.invariant _ gone put.value new c.args.item put.updates many same alike in
          let left = items_kept all sort slots es c.self.invariant _ gone put.value new c.args.item put.updates many same alike in
          let others = others_some all sort slots es c.self.invariant _ _ c.in-Some.ensures.found gone put.value (place all sort slots es c.self.invariant _ gone put.value)
          (place_within all sort slots es c.self.invariant _ gone put.value) (place_slot all sort slots es c.self.invariant _ gone put.value) in
          rw (w.result-is, ← c.self.view_is) (kept.items c.args.item put.updates.changed ∙ ap (λ l. with_item by l c.args.item) (left ∙ others))
      | in-Err-rekey_at w ↦ rw w.result-is tt
    ]

pub returns-clause-reason : goal.returns-clause-reason
returns-clause-reason g c =
    let all = total g.M.Item.Sortable.sort_key g.met.M.Item.SortKey.Ord.total g.M.SlotMap.first_key g.met.M.FirstKey.Ord.total in
    elim c.match-rekey_at-2.branch [
      | in-Ok-rekey_at w ↦ rw w.result-is tt
      | in-Err-rekey_at w ↦ rw (w.result-is, ← c.self.view_is) (blocked_found all g.M.Item.Sortable.sort_key (g.M.SlotMap.shown c.self.inside.map).slots (line c.self.inside.order.blocks) c.self.invariant _ _ c.in-Some.ensures.found g.M.SlotMap.ranks c.args.item w.in-Err-rekey_at.ensures.reason)
    ]

pub returns-clause-costs : goal.returns-clause-costs
returns-clause-costs g c =
    elim c.match-rekey_at-2.branch [
      | in-Ok-rekey_at w ↦ rw (w.result-is, ← c.self.view_is) (rekeying _ (omega arith) c.in-Some.ensures.costs c.rekey_at-2.ensures.costs)
      | in-Err-rekey_at w ↦ rw (w.result-is, ← c.self.view_is) (rekeying _ (omega arith) c.in-Some.ensures.costs c.rekey_at-2.ensures.costs)
    ]

pub returns-clause-free : goal.returns-clause-free
returns-clause-free g c =
    let sort = g.M.Item.Sortable.sort_key in
    let key = g.M.SlotMap.first_key in
    let cmp_key = g.M.FirstKey.Ord.cmp in
    let by = by_sort sort g.M.Item.SortKey.Ord.cmp key cmp_key in
    let all = total sort g.met.M.Item.SortKey.Ord.total key g.met.M.FirstKey.Ord.total in
    let slots = (g.M.SlotMap.shown c.self.inside.map).slots in
    let es = line c.self.inside.order.blocks in
    let new = (g.M.SlotMap.shown c.rekey_at-2.new.self).slots in
    let stays : c.is_level.result ≡ true = search rules in
    elim c.match-rekey_at-2.branch [
      | in-Ok-rekey_at w ↦
          let put = w.in-Ok-rekey_at.ensures in
          let gone = w.in-Ok-rekey_at.gone in
          let level : is_eq (by gone c.args.item) ≡ true = sym (c.is_level.ensures.value gone (rw (← c.self.view_is) put.value)) ∙ stays in
          let one = one_level by gone c.args.item level in
          let alike = alike_keys sort g.met.M.Item.SortKey.Ord.total key cmp_key gone c.args.item level in
          let many : length (contents new) ≡ length (contents slots) = omega (arith, length_permutation _ _ put.puts_at.items, length_permutation _ _ (contents-take slots _ gone put.value)) in
          let p = place all sort slots es c.self.invariant _ gone put.value in
          let left = items_kept all sort slots es c.self.invariant _ gone put.value new c.args.item put.updates many one alike in
          let listed = others_kept all sort slots es c.self.invariant _ gone put.value new c.args.item put.updates many one alike in
          let others = others_some all sort slots es c.self.invariant _ _ c.in-Some.ensures.found gone put.value p
          (place_within all sort slots es c.self.invariant _ gone put.value) (place_slot all sort slots es c.self.invariant _ gone put.value) in
          let same = IsPermutation-listed all sort _ (remove es p) listed in
          rw (w.result-is, ← c.self.view_is) (none-permutation (do_conflict g.M.SlotMap.ranks c.args.item) _ _ (rw (left ∙ others) at same) (free_taken g.M.SlotMap.ranks g.met.M.SlotMap.lawful new _ c.args.item put.updates.changed put.puts_at.sound))
      | in-Err-rekey_at w ↦ rw w.result-is tt
    ]
