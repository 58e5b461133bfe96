-- The entry of a slot whose item changed, but for its first key.
use Rattle.std.proofs.Common.{◌≡◌, ℕ, ◌<◌, true, List, Option, Some, length, get_or, refl, sym, ap, ◌∙◌, inl, inr}
use Rattle.std.specs.Prelude.{Contains}
use Rattle.std.specs.List.{remove}
use Rattle.std.specs.Cmp.{IsTotalOrder, alike_right, tied_back}
use Rattle.std.specs.Ordering.{is_eq, ordering_then}
use Rattle.std.specs.declared.cmp.Ordering.{Ordering}
use Rattle.std.specs.declared.cmp.Ordering.TheVariants.{Less, Equal, Greater}
use Rattle.std.proofs.lemmas.Bool.{false≢true, cases_eq}
use Rattle.std.proofs.lemmas.Cmp.{tied_itself}
use Rattle.iddqd_store.specs.Slots.{get, IsLive}
use Rattle.iddqd_order.specs.Search.{IsSearchable, IsLastEqual, IsSplit, order_at}
use Rattle.iddqd_sorted.specs.declared.entry.Entry.{Entry}
use Rattle.iddqd_sorted.specs.Entries.{items_in}
use Rattle.iddqd_sorted.specs.Items.{by_sort}
use Rattle.iddqd_sorted.specs.Settled.{ListsBefore, ListsOthers, Resettles}
use Rattle.iddqd_sorted.proofs.Exchanged.{others_left}
use Rattle.iddqd_sorted.proofs.Kept.{place, place_within, place_slot, settles_kept}
use Rattle.iddqd_sorted.proofs.Listed.{item_at_index, Contains-listed}
use Rattle.iddqd_sorted.proofs.Searching.{seen_searchable, seen_found, seen_gap}
use Rattle.iddqd_sorted.proofs.Settling.{slot_at}
use Rattle.iddqd_sorted.proofs.Sorting.{total, no_gap, found_there}

equal : (a : Ordering) → is_eq a ≡ true → a ≡ Equal
equal Less e = absurd (false≢true e)
equal Equal e = refl
equal Greater e = absurd (false≢true e)

pub level_back : {K : Type 0} {cmp : K → K → Ordering} (o : IsTotalOrder cmp) (a b : K) → is_eq (cmp a b) ≡ true → cmp b a ≡ Equal
level_back {cmp = cmp} o a b e = tied_back o a b (equal (cmp a b) e)

module _ {T K Key : Type 0} (sort : T → K) {cmp : K → K → Ordering} (sorts : IsTotalOrder cmp) (key : T → Key) {cmp_key : Key → Key → Ordering} (keys : IsTotalOrder cmp_key)
    (slots : List (Option T)) (slot : ℕ) (before : K) (es : List (Entry K)) (l : ListsBefore sort cmp key cmp_key slots slot before es) where
  all : IsTotalOrder (by_sort sort cmp key cmp_key)
  all = total sort sorts key keys

  module _ (seen : List (Option T)) (seen_is : seen ≡ slots) where
    -- each entry leads to an item
    pub live_changed : (i : ℕ) (d : Entry K) → i < length es → IsLive seen (get_or es i d).slot
    live_changed i d lt = elim (cases_eq (get_or es i d).slot slot) [
      | inl same ↦ rw (seen_is, same, l.updates.changed) refl
      | inr other ↦ rw (seen_is, l.updates.others (get_or es i d).slot other) (l.listed.live i d lt)
    ]

    module _ (first : Key) (first_is : first ≡ key l.now) where
      -- the first keys compare as they did
      compared : (i : ℕ) (d : Entry K) (y : T) → i < length es → order_at (λ z. cmp_key (key z) first) (get seen (get_or es i d).slot) ≡ cmp_key (key (get_or (items_in l.old es) i y)) (key l.item)
      compared i d y lt =
          let w = get_or (items_in l.old es) i y in
          let had : get l.old (get_or es i d).slot ≡ Some w = item_at_index all sort l.old es l.listed i d y lt in
          let now_seen = ap (λ (q : List (Option T)). get q (get_or es i d).slot) seen_is in
          elim (cases_eq (get_or es i d).slot slot) [
            | inl same ↦
                let here : get seen (get_or es i d).slot ≡ Some l.now = now_seen ∙ (ap (get slots) same ∙ l.updates.changed) in
                let one : Some w ≡ Some l.item = sym had ∙ (ap (get l.old) same ∙ l.had) in
                let old : w ≡ l.item = cc one in
                ap (order_at (λ z. cmp_key (key z) first)) here ∙ (ap (cmp_key (key l.now)) first_is ∙ (tied_itself keys (key l.now)
                ∙ sym (ap (λ z. cmp_key (key z) (key l.item)) old ∙ tied_itself keys (key l.item))))
            | inr other ↦
                let here : get seen (get_or es i d).slot ≡ Some w = now_seen ∙ (l.updates.others (get_or es i d).slot other ∙ had) in
                ap (order_at (λ z. cmp_key (key z) first)) here ∙ (ap (cmp_key (key w)) first_is ∙ sym (alike_right keys (key l.item) (key l.now) (key w) l.level))
          ]

      abbrev compare : Entry K → Ordering
      compare e = ordering_then (cmp e.sort_key before) (order_at (λ z. cmp_key (key z) first) (get seen e.slot))

      pub changed_searchable : IsSearchable compare es
      changed_searchable = seen_searchable sort sorts key keys l.old es l.listed l.item before l.keyed first seen compared

      there : Contains (items_in l.old es) l.item
      there = Contains-listed all sort l.old es l.listed slot l.item l.had

      -- the entry of the slot is found
      pub changed_gap : (p : ℕ) → IsSplit compare es p 0 → ⊥
      changed_gap p gap = no_gap all (items_in l.old es) l.item there p (seen_gap sort sorts key keys l.old es l.listed l.item before l.keyed first seen compared p gap)

      pub changed_slot : (p : ℕ) (d : Entry K) → p < length es → IsLastEqual compare es p → (get_or es p d).slot ≡ slot
      changed_slot p d lt found =
          let here = found_there all (items_in l.old es) l.item there p (seen_found sort sorts key keys l.old es l.listed l.item before l.keyed first seen compared p found) l.item in
          slot_at all sort l.old es l.listed slot l.item l.had p d lt here

  -- the other entries
  pub others_changed : (p : ℕ) → p < length es → ((d : Entry K) → (get_or es p d).slot ≡ slot) → ListsOthers (by_sort sort cmp key cmp_key) sort cmp slots slot (remove es p)
  others_changed p lt at = others_left all sort l.old es l.listed slot l.item p lt at slots l.now l.updates l.many

  -- the entry stays, if the sort key does
  pub resettled_kept : cmp before (sort l.now) ≡ Equal → Resettles (by_sort sort cmp key cmp_key) sort cmp slots slot es es
  resettled_kept same =
      let tie : cmp (sort l.item) (sort l.now) ≡ Equal = sym (ap (λ z. cmp z (sort l.now)) l.keyed) ∙ same in
      let level : by_sort sort cmp key cmp_key l.item l.now ≡ Equal = rw (tie, l.level) refl in
      record {
        place = place all sort l.old es l.listed slot l.item l.had;
        within = place_within all sort l.old es l.listed slot l.item l.had;
        at_slot = place_slot all sort l.old es l.listed slot l.item l.had;
        settles = settles_kept all sort l.old es l.listed slot l.item l.had slots l.now l.updates l.many level (λ k. sym (sorts.congr (sort l.item) (sort l.now) k tie));
      }
