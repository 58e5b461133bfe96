-- The entry of a slot: where it stands, and how it comes to its place.
use Rattle.std.proofs.Common.{◌≡◌, ℕ, zero, suc, ◌+◌, ◌<◌, ◌≤◌, All, false, List, [], ◌∷◌, Option, Some, None, is_some, length, get_or, set, refl, sym, ap, ◌∙◌, arith, inl, inr}
use Rattle.std.specs.Prelude.{Contains, IsPermutation}
use Rattle.std.specs.List.{insert, remove, AllByRecursion, IsDistinct}
use Rattle.std.specs.Cmp.{IsTotalOrder}
use Rattle.std.specs.Ordering.{is_eq, ordering_reverse, ordering_then}
use Rattle.std.specs.declared.cmp.Ordering.{Ordering}
use Rattle.std.specs.declared.cmp.Ordering.TheVariants.{Less, Equal, Greater}
use Rattle.std.proofs.lemmas.Bool.{false≢true, cases_eq}
use Rattle.std.proofs.lemmas.Cmp.{tied_itself}
use Rattle.std.proofs.lemmas.List.{get_or-set_other}
use Rattle.std.proofs.lemmas.List.Sorted.{IsPermutation-sym, IsPermutation-trans, length_permutation}
use Rattle.std.proofs.lemmas.Map.Keys.{IsDistinct-head, IsDistinct-IsPermutation}
use Rattle.iddqd_store.specs.Slots.{get, contents, live_count, IsLive, Updates}
use Rattle.iddqd_store.proofs.BagLemmas.Sound.{none_pass}
use Rattle.iddqd_store.proofs.SlotLemmas.Contents.{length-contents, contents-take, content_at}
use Rattle.iddqd_order.specs.Search.{IsSearchable, IsLastEqual, IsSplit, order_at}
use Rattle.iddqd_sorted.specs.declared.entry.Entry.{Entry}
use Rattle.iddqd_sorted.specs.Entries.{IsListed, items_in}
use Rattle.iddqd_sorted.specs.Items.{by_sort}
use Rattle.iddqd_sorted.specs.Ordered.{IsAscending}
use Rattle.iddqd_sorted.specs.Settled.{ListsOthers, Settles}
use Rattle.iddqd_sorted.proofs.Finding.{passes_somewhere}
use Rattle.iddqd_sorted.proofs.Listed.{long, item_at_index, items-inserted, IsListed-inserted, items-removed, IsListed-removed, IsPermutation-listed}
use Rattle.iddqd_order.proofs.FilterLemmas.{inserted-split}
use Rattle.iddqd_sorted.proofs.Searching.{item_searchable, item_found, item_gap}
use Rattle.iddqd_sorted.proofs.Sorting.{total}
use Rattle.iddqd_sorted.proofs.Unique.{ascending-tail, behind_first}

each_of : {T : Type 0} (P : T → Type 0) (xs : List T) → All P xs → AllByRecursion P xs
each_of P [] all = tt
each_of P (x ∷ xs) all = (all 0 x (omega arith), each_of P xs (λ j d lt. all (suc j) d (omega (arith, lt))))

eq_reverse : (a : Ordering) → is_eq (ordering_reverse a) ≡ is_eq a
eq_reverse Less = refl
eq_reverse Equal = refl
eq_reverse Greater = refl

module _ {T : Type 0} {by : T → T → Ordering} (o : IsTotalOrder by) where
  -- no two items of an ascending list have one place
  ascending-distinct : (xs : List T) → IsAscending by xs → IsDistinct (λ x y. is_eq (by x y)) xs
  unfolding IsDistinct
  ascending-distinct [] up = tt
  ascending-distinct (x ∷ xs) up =
      (each_of (λ y. is_eq (by x y) ≡ false) xs (λ j d lt. ap is_eq (behind_first o x xs up j d lt)), ascending-distinct xs (ascending-tail o x xs up))

  -- an item of such a list stands there once
  once : (xs rest : List T) (x : T) → IsAscending by xs → IsPermutation xs (x ∷ rest) → Contains rest x → ⊥
  once xs rest x up same there =
      let flips : (y z : T) → is_eq (by y z) ≡ is_eq (by z y) = λ y z. ap is_eq (o.antisymm y z) ∙ eq_reverse (by z y) in
      let distinct = IsDistinct-IsPermutation (λ y z. is_eq (by y z)) flips xs (x ∷ rest) same (ascending-distinct xs up) in
      let none = none_pass (λ y. is_eq (by x y)) rest (IsDistinct-head (λ y z. is_eq (by y z)) x rest distinct) in
      passes_somewhere (λ y. is_eq (by x y)) rest x there.0 none there.1 (ap (λ y. is_eq (by x y)) there.2 ∙ ap is_eq (tied_itself o x))

module _ {T K : Type 0} {by : T → T → Ordering} (o : IsTotalOrder by) (sort : T → K) {cmp : K → K → Ordering} (slots : List (Option T)) (es : List (Entry K)) (r : IsListed by sort cmp slots es)
    (slot : ℕ) (x : T) (there : get slots slot ≡ Some x) where
  -- the entry of an item is that of its slot
  pub slot_at : (p : ℕ) (d : Entry K) → p < length es → get_or (items_in slots es) p x ≡ x → (get_or es p d).slot ≡ slot
  slot_at p d lt is = elim (cases_eq (get_or es p d).slot slot) [
    | inl same ↦ same
    | inr other ↦
        let e = get_or es p d in
        let left = set slots slot None in
        let read : get slots e.slot ≡ Some x = item_at_index o sort slots es r p d x lt ∙ ap Some is in
        let more : get left e.slot ≡ Some x = get_or-set_other slots slot e.slot None None other ∙ read in
        let same = IsPermutation-trans _ _ _ (IsPermutation-sym _ _ (IsPermutation-listed o sort slots es r)) (contents-take slots slot x there) in
        absurd (once o (items_in slots es) (contents left) x r.ascending same (content_at left e.slot x more))
  ]

module _ {T : Type 0} (slots : List (Option T)) (slot : ℕ) (x : T) (there : get slots slot ≡ Some x) where
  back : Updates (set slots slot None) slots slot (Some x)
  back = record { changed = there; others = λ other apart. sym (get_or-set_other slots slot other None None apart) }

  one_more : live_count slots ≡ live_count (set slots slot None) + 1
  one_more = omega (arith, length_permutation _ _ (contents-take slots slot x there), length-contents slots, length-contents (set slots slot None))

-- a slot of which the item was taken has none
pub none_left : {T : Type 0} (slots : List (Option T)) (slot : ℕ) → get (set slots slot None) slot ≡ None
none_left [] slot = refl
none_left (s ∷ slots) zero = refl
none_left (s ∷ slots) (suc i) = none_left slots i

module _ {T K : Type 0} {by : T → T → Ordering} (o : IsTotalOrder by) (sort : T → K) {cmp : K → K → Ordering} (slots : List (Option T)) (slot : ℕ) (x : T) (there : get slots slot ≡ Some x)
    (es : List (Entry K)) (r : ListsOthers by sort cmp slots slot es) where
  -- the other entries lead to other slots
  pub seen : (j : ℕ) (d : Entry K) → j < length es → get slots (get_or es j d).slot ≡ get (set slots slot None) (get_or es j d).slot
  seen j d lt = (back slots slot x there).others (get_or es j d).slot
      (λ same. false≢true (ap (λ (q : Option T). is_some q) (sym (ap (get (set slots slot None)) same ∙ none_left slots slot)) ∙ r.live j d lt))

  pub live_seen : All (λ e. IsLive slots e.slot) es
  live_seen j d lt = rw (seen j d lt) (r.live j d lt)

  -- an entry in the gap for it
  pub settled_level : (k : K) → ((q : K) → cmp (sort x) q ≡ cmp k q) → (p : ℕ) → IsSplit (λ y. by y x) (items_in (set slots slot None) es) p 0
      → Settles by sort cmp slots slot es (insert es p (record { sort_key = k; slot = slot }))
  settled_level k keyed p gap =
      let bare = set slots slot None in
      let e : Entry K = record { sort_key = k; slot = slot } in
      let le : p ≤ length es = omega (arith, gap.in_range, long o sort bare es r) in
      let items = items-inserted o sort bare es r slots e p x (none_left slots slot) (back slots slot x there) le
      ∙ inserted-split (λ y. by y x) (items_in bare es) p gap x in
      record {
        listed = IsListed-inserted o sort bare es r slots e p x (none_left slots slot) (back slots slot x there) (one_more slots slot x there) keyed gap;
        items = λ y is. let same : x ≡ y = cc (sym there ∙ is) in rw (← same) items;
      }

  pub settled : (k : K) → sort x ≡ k → (p : ℕ) → IsSplit (λ y. by y x) (items_in (set slots slot None) es) p 0
      → Settles by sort cmp slots slot es (insert es p (record { sort_key = k; slot = slot }))
  settled k keyed p gap = settled_level k (λ q. ap (λ z. cmp z q) keyed) p gap

-- a search among the other entries for an item that has these keys
module _ {T K Key : Type 0} (sort : T → K) {cmp : K → K → Ordering} (sorts : IsTotalOrder cmp) (key : T → Key) {cmp_key : Key → Key → Ordering} (keys : IsTotalOrder cmp_key)
    (slots : List (Option T)) (slot : ℕ) (x : T) (there : get slots slot ≡ Some x) (es : List (Entry K)) (r : ListsOthers (by_sort sort cmp key cmp_key) sort cmp slots slot es)
    (now : List (Option T)) (now_is : now ≡ slots) (k : K) (sort_is : k ≡ sort x) (first : Key) (key_is : first ≡ key x) where
  abbrev compare : Entry K → Ordering
  compare e = ordering_then (cmp e.sort_key k) (order_at (λ z. cmp_key (key z) first) (get now e.slot))

  same : (j : ℕ) (d : Entry K) → j < length es → get now (get_or es j d).slot ≡ get (set slots slot None) (get_or es j d).slot
  same j d lt = ap (λ (q : List (Option T)). get q (get_or es j d).slot) now_is ∙ seen (total sort sorts key keys) sort slots slot x there es r j d lt

  pub other_searchable : IsSearchable compare es
  other_searchable = item_searchable sort sorts key keys (set slots slot None) es r x k sort_is first key_is now same

  pub other_found : (p : ℕ) → IsLastEqual compare es p → IsSplit (λ y. by_sort sort cmp key cmp_key y x) (items_in (set slots slot None) es) p 1
  other_found = item_found sort sorts key keys (set slots slot None) es r x k sort_is first key_is now same

  pub other_gap : (p : ℕ) → IsSplit compare es p 0 → IsSplit (λ y. by_sort sort cmp key cmp_key y x) (items_in (set slots slot None) es) p 0
  other_gap = item_gap sort sorts key keys (set slots slot None) es r x k sort_is first key_is now same

module _ {T K : Type 0} {by : T → T → Ordering} (o : IsTotalOrder by) (sort : T → K) {cmp : K → K → Ordering} (slots : List (Option T)) (es : List (Entry K)) (r : IsListed by sort cmp slots es)
    (slot : ℕ) (x : T) (there : get slots slot ≡ Some x) (p : ℕ) (lt : p < length es) (at : (d : Entry K) → (get_or es p d).slot ≡ slot) where
  -- the item at the place of the entry of its slot
  pub item_at_slot : (d : T) → x ≡ get_or (items_in slots es) p d
  item_at_slot d =
      let e : Entry K = record { sort_key = sort x; slot = slot } in
      let one : Some x ≡ Some (get_or (items_in slots es) p d) = sym there ∙ (ap (get slots) (sym (at e)) ∙ item_at_index o sort slots es r p e d lt) in
      cc one

  out : (new : List (Option T)) → Updates slots new slot None → (d : Entry K) → Updates slots new (get_or es p d).slot None
  out new updates d = rw (at d) updates

  fewer : (new : List (Option T)) → IsPermutation (contents slots) (x ∷ contents new) → live_count new + 1 ≡ live_count slots
  fewer new same = omega (arith, length_permutation _ _ same, length-contents slots, length-contents new)

  -- the order without that entry, where the item has left its slot
  pub IsListed-taken : (new : List (Option T)) → Updates slots new slot None → IsPermutation (contents slots) (x ∷ contents new) → IsListed by sort cmp new (remove es p)
  IsListed-taken new updates same =
      let e : Entry K = record { sort_key = sort x; slot = slot } in
      IsListed-removed o sort slots es r new p e lt (out new updates e) (fewer new same)

  pub items-taken : (new : List (Option T)) → Updates slots new slot None → items_in new (remove es p) ≡ remove (items_in slots es) p
  items-taken new updates =
      let e : Entry K = record { sort_key = sort x; slot = slot } in
      items-removed o sort slots es r new p e lt (out new updates e)
