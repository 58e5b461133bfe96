-- An item in the slot of another that has the same place in the order: the entries stay.
use Rattle.std.proofs.Common.{◌≡◌, ℕ, ◌<◌, true, List, Option, Some, None, length, get_or, set, refl, sym, ap, ◌∙◌, subst, arith}
use Rattle.std.specs.Prelude.{Contains}
use Rattle.std.specs.List.{insert, remove}
use Rattle.std.specs.Cmp.{IsTotalOrder}
use Rattle.std.specs.Ordering.{is_eq, ordering_then}
use Rattle.std.specs.declared.cmp.Ordering.{Ordering}
use Rattle.std.specs.declared.cmp.Ordering.TheVariants.{Less, Equal, Greater}
use Rattle.std.proofs.lemmas.Bool.{false≢true}
use Rattle.std.proofs.lemmas.List.{set-get_or}
use Rattle.iddqd_store.specs.Slots.{get, contents, Updates}
use Rattle.iddqd_order.specs.Search.{IsSplit}
use Rattle.iddqd_sorted.specs.declared.entry.Entry.{Entry}
use Rattle.iddqd_sorted.specs.Entries.{IsListed, items_in}
use Rattle.iddqd_sorted.specs.Items.{by_sort}
use Rattle.iddqd_sorted.specs.Settled.{ListsOthers, Settles}
use Rattle.iddqd_sorted.proofs.Exchanged.{others_left, others_items}
use Rattle.iddqd_sorted.proofs.Listed.{long, Contains-listed, item_at_index}
use Rattle.iddqd_sorted.proofs.Ordering.{lower_too, higher_too}
use Rattle.iddqd_sorted.proofs.Settling.{slot_at, settled_level}
use Rattle.iddqd_sorted.proofs.Staying.{set-moved, gap_left}

then_equal : (a b : Ordering) → is_eq (ordering_then a b) ≡ true → a ≡ Equal
then_equal Less b e = absurd (false≢true e)
then_equal Equal b e = refl
then_equal Greater b e = absurd (false≢true e)

equal : (a : Ordering) → is_eq a ≡ true → a ≡ Equal
equal Less e = absurd (false≢true e)
equal Equal e = refl
equal Greater e = absurd (false≢true e)

-- items of one place have sort keys that compare alike
pub alike_keys : {T K Key : Type 0} (sort : T → K) {cmp : K → K → Ordering} (sorts : IsTotalOrder cmp) (key : T → Key) (cmp_key : Key → Key → Ordering) (x y : T)
    → is_eq (by_sort sort cmp key cmp_key x y) ≡ true → (k : K) → cmp (sort y) k ≡ cmp (sort x) k
alike_keys sort {cmp} sorts key cmp_key x y level k =
    sym (sorts.congr (sort x) (sort y) k (then_equal (cmp (sort x) (sort y)) (cmp_key (key x) (key y)) level))

pub one_level : {T : Type 0} (by : T → T → Ordering) (x y : T) → is_eq (by x y) ≡ true → by x y ≡ Equal
one_level by x y level = equal (by x y) level

module _ {T K : Type 0} {by : T → T → Ordering} (o : IsTotalOrder by) (sort : T → K) {cmp : K → K → Ordering} (slots : List (Option T)) (es : List (Entry K)) (r : IsListed by sort cmp slots es)
    (slot : ℕ) (x : T) (there : get slots slot ≡ Some x) where
  abbrev here : Contains (items_in slots es) x
  here = Contains-listed o sort slots es r slot x there

  -- where its entry stands
  abbrev pub place : ℕ
  place = (Contains-listed o sort slots es r slot x there).0

  pub place_within : place < length es
  place_within = omega (arith, here.1, long o sort slots es r)

  pub place_slot : (d : Entry K) → (get_or es place d).slot ≡ slot
  place_slot d = slot_at o sort slots es r slot x there place d place_within here.2

  module _ (new : List (Option T)) (y : T) (updates : Updates slots new slot (Some y)) (many : length (contents new) ≡ length (contents slots))
      (level : by x y ≡ Equal) (keyed : (k : K) → cmp (sort y) k ≡ cmp (sort x) k) where
    pub others_kept : ListsOthers by sort cmp new slot (remove es place)
    others_kept = others_left o sort slots es r slot x place place_within place_slot new y updates many

    pub items_kept : items_in (set new slot None) (remove es place) ≡ remove (items_in slots es) place
    items_kept = others_items o sort slots es r slot x place place_within place_slot new y updates many

    abbrev entry : Entry K
    entry = get_or es place (record { sort_key = sort x; slot = slot })

    at_place : (d : T) → get_or (items_in slots es) place d ≡ x
    at_place d =
        let e : Entry K = record { sort_key = sort x; slot = slot } in
        let one : Some (get_or (items_in slots es) place d) ≡ Some x = sym (item_at_index o sort slots es r place e d place_within) ∙ (ap (get slots) (place_slot e) ∙ there) in
        cc one

    same_place : (d : T) → by (get_or (items_in slots es) place d) y ≡ Equal
    same_place d = ap (λ z. by z y) (at_place d) ∙ level

    gap : IsSplit (λ z. by z y) (items_in (set new slot None) (remove es place)) place 0
    gap = rw items_kept (gap_left (λ z. by z y) (items_in slots es) place here.1
        (λ j d less. lower_too o (get_or (items_in slots es) j d) (get_or (items_in slots es) place d) y (r.ascending j place d less here.1) (same_place d))
        (λ j d more within. higher_too o (get_or (items_in slots es) j d) (get_or (items_in slots es) place d) y (r.ascending place j d more within) (same_place d)))

    keyed_entry : (k : K) → cmp (sort y) k ≡ cmp entry.sort_key k
    keyed_entry k =
        let e : Entry K = record { sort_key = sort x; slot = slot } in
        keyed k ∙ r.keyed place e place_within x (ap (get slots) (place_slot e) ∙ there) k

    back : insert (remove es place) place (record { sort_key = entry.sort_key; slot = slot }) ≡ es
    back =
        let e : Entry K = record { sort_key = sort x; slot = slot } in
        let same : record { sort_key = entry.sort_key; slot = slot } ≡ entry = λ t. record { sort_key = entry.sort_key; slot = sym (place_slot e) t } in
        ap (λ (z : Entry K). insert (remove es place) place z) same ∙ (sym (set-moved es place entry place_within) ∙ set-get_or es place e)

    -- the entries list what is in the slots now
    pub settles_kept : Settles by sort cmp new slot (remove es place) es
    settles_kept = subst (λ (q : List (Entry K)). Settles by sort cmp new slot (remove es place) q) back
        (settled_level o sort new slot y updates.changed (remove es place) others_kept entry.sort_key keyed_entry place gap)
