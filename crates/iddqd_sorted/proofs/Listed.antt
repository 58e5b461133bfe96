-- The order of a map: its entries list each slot with an item once.
use Rattle.std.proofs.Common.{◌≡◌, ◌≢◌, ℕ, zero, suc, ◌+◌, ◌-◌, ◌<◌, ◌≤◌, All, List, [], ◌∷◌, Option, Some, None, IsSome, length, get_or, set, refl, sym, ap, ◌∙◌, subst, arith, inl, inr}
use Rattle.std.specs.Prelude.{IsPermutation, Contains}
use Rattle.std.specs.List.{insert, remove}
use Rattle.std.specs.Cmp.{IsTotalOrder}
use Rattle.std.specs.Ordering.{is_lt}
use Rattle.std.specs.declared.cmp.Ordering.{Ordering}
use Rattle.std.specs.declared.cmp.Ordering.TheVariants.{Less}
use Rattle.std.proofs.lemmas.Bool.{false≢true, cases_lt}
use Rattle.std.proofs.lemmas.Cmp.{tied_itself}
use Rattle.std.proofs.lemmas.List.{get_or-set_other}
use Rattle.std.proofs.lemmas.List.Edits.{length-insert, length-remove, get_or-remove_below, get_or-remove_above}
use Rattle.std.proofs.lemmas.List.Sorted.{IsPermutation-refl, IsPermutation-cons, IsPermutation-trans, Contains-permutation, length_permutation}
use Rattle.iddqd_store.specs.Slots.{get, contents, live_count, Updates}
use Rattle.iddqd_store.proofs.SlotLemmas.Contents.{length-contents, contents-take, content_at}
use Rattle.iddqd_order.proofs.LineLemmas.{All-insert, All-remove}
use Rattle.iddqd_sorted.specs.declared.entry.Entry.{Entry}
use Rattle.iddqd_sorted.specs.Entries.{IsListed, item_in, items_in}
use Rattle.iddqd_order.specs.Search.{IsSplit}
use Rattle.iddqd_sorted.proofs.Entries.{item_here, length-items, items-insert, items-remove, items-same}
use Rattle.iddqd_sorted.proofs.Ordering.{ascending-insert, ascending-remove}

empty : {T : Type 0} (xs : List T) → length xs ≡ 0 → xs ≡ []
empty [] none = refl
empty (x ∷ xs) none = absurd (omega (arith, none))

-- what is in a slot that has an item
value_of : {T : Type 0} (o : Option T) → IsSome o → T
value_of None live = absurd (false≢true live)
value_of (Some x) live = x

-- an order of no entries
pub IsListed-none : {T K : Type 0} (by : T → T → Ordering) (sort : T → K) {cmp : K → K → Ordering} (slots : List (Option T)) → contents slots ≡ [] → IsListed by sort cmp slots []
IsListed-none by sort slots none = record {
  live = λ i d lt. absurd (omega (arith, lt));
  keyed = λ i d lt. absurd (omega (arith, lt));
  counted = sym (length-contents slots) ∙ ap length none;
  ascending = λ i j d lt in_range. absurd (omega (arith, in_range));
}

module _ {T K : Type 0} {by : T → T → Ordering} (o : IsTotalOrder by) (sort : T → K) {cmp : K → K → Ordering} (slots : List (Option T)) (es : List (Entry K)) (r : IsListed by sort cmp slots es) where
  pub long : length (items_in slots es) ≡ length es
  long = length-items (item_in slots) es r.live

  -- as many items as slots that have one
  pub counted-items : length (items_in slots es) ≡ length (contents slots)
  counted-items = omega (arith, long, r.counted, length-contents slots)

  -- the item of an entry
  pub item_at_index : (i : ℕ) (d : Entry K) (x : T) → i < length es → item_in slots (get_or es i d) ≡ Some (get_or (items_in slots es) i x)
  item_at_index i d x lt = item_here (item_in slots) es r.live i d x lt

  pub item_read : (i : ℕ) (e : Entry K) (x d : T) → i < length es → e ≡ get_or es i e → item_in slots e ≡ Some x → x ≡ get_or (items_in slots es) i d
  item_read i e x d lt is found =
      let one : Some x ≡ Some (get_or (items_in slots es) i d) = sym found ∙ (ap (item_in slots) is ∙ item_at_index i e d lt) in
      cc one

  pub key_at_index : (i : ℕ) (d : Entry K) (x : T) → i < length es → (k : K) → cmp (sort (get_or (items_in slots es) i x)) k ≡ cmp (get_or es i d).sort_key k
  key_at_index i d x lt = r.keyed i d lt (get_or (items_in slots es) i x) (item_at_index i d x lt)

  -- no slot is listed twice
  pub apart : (i j : ℕ) (d : Entry K) → i < j → j < length es → (get_or es i d).slot ≢ (get_or es j d).slot
  apart i j d lt in_range same =
      let i_lt : i < length es = omega (arith, lt, in_range) in
      let x = value_of (item_in slots (get_or es i d)) (r.live i d i_lt) in
      let one : Some (get_or (items_in slots es) i x) ≡ Some (get_or (items_in slots es) j x) = sym (item_at_index i d x i_lt) ∙ (ap (get slots) same ∙ item_at_index j d x in_range) in
      let alike : get_or (items_in slots es) i x ≡ get_or (items_in slots es) j x = cc one in
      let less : by (get_or (items_in slots es) i x) (get_or (items_in slots es) j x) ≡ Less = r.ascending i j x lt (omega (arith, long, in_range)) in
      false≢true (ap is_lt (sym (tied_itself o (get_or (items_in slots es) j x)) ∙ rw alike at less))

  -- an item in a new slot leaves the others
  items-kept : (new : List (Option T)) (slot : ℕ) (x : Option T) → get slots slot ≡ None → Updates slots new slot x → (i : ℕ) (d : Entry K) → i < length es → item_in new (get_or es i d) ≡ item_in slots (get_or es i d)
  items-kept new slot x free updates i d lt = updates.others (get_or es i d).slot (λ same. false≢true (rw (same, free) at (r.live i d lt)))

  pub items-inserted : (new : List (Option T)) (e : Entry K) (i : ℕ) (x : T) → get slots e.slot ≡ None → Updates slots new e.slot (Some x) → i ≤ length es → items_in new (insert es i e) ≡ insert (items_in slots es) i x
  items-inserted new e i x free updates le =
      let kept = items-kept new e.slot (Some x) free updates in
      let live : All (λ e. IsSome (item_in new e)) es = λ j d lt. rw (kept j d lt) (r.live j d lt) in
      items-insert (item_in new) es i e x live le updates.changed ∙ ap (λ (q : List T). insert q i x) (items-same (item_in slots) (item_in new) es kept)

  pub IsListed-inserted : (new : List (Option T)) (e : Entry K) (i : ℕ) (x : T) → get slots e.slot ≡ None → Updates slots new e.slot (Some x) → live_count new ≡ live_count slots + 1
      → ((k : K) → cmp (sort x) k ≡ cmp e.sort_key k) → IsSplit (λ y. by y x) (items_in slots es) i 0 → IsListed by sort cmp new (insert es i e)
  IsListed-inserted new e i x free updates more keyed gap =
      let kept = items-kept new e.slot (Some x) free updates in
      let le : i ≤ length es = omega (arith, long, gap.in_range) in
      let len = length-insert es i e le in
      record {
        live = All-insert (λ e. IsSome (item_in new e)) es i e (λ j d lt. rw (kept j d lt) (r.live j d lt)) (rw updates.changed refl);
        keyed = All-insert (λ e. (x : T) → item_in new e ≡ Some x → (k : K) → cmp (sort x) k ≡ cmp e.sort_key k) es i e (λ j d lt y found. r.keyed j d lt y (sym (kept j d lt) ∙ found))
            (λ y found. let one : Some x ≡ Some y = sym updates.changed ∙ found in let same : y ≡ x = cc one in λ k. ap (λ z. cmp (sort z) k) same ∙ keyed k);
        counted = omega (arith, more, len, r.counted);
        ascending = rw (items-inserted new e i x free updates le) (ascending-insert o (items_in slots es) i x gap r.ascending);
      }

  without : (new : List (Option T)) (i : ℕ) (d : Entry K) → i < length es → Updates slots new (get_or es i d).slot None → (j : ℕ) (f : Entry K) → j < length (remove es i) → item_in new (get_or (remove es i) j f) ≡ item_in slots (get_or (remove es i) j f)
  without new i d lt updates j f in_range =
      let len = length-remove es i lt in
      let one : (get_or es i d).slot ≡ (get_or es i f).slot = ap (λ (e : Entry K). e.slot) (read_too es i d f lt) in
      updates.others (get_or (remove es i) j f).slot (elim (cases_lt j i) [
        | inl below ↦ rw (get_or-remove_below es i f j below lt, one) (apart j i f below lt)
        | inr above ↦ rw (get_or-remove_above es i f j above lt, one) (λ same. apart i (j + 1) f (omega arith) (omega arith) (sym same))
      ])
    where
      read_too : (xs : List (Entry K)) (i : ℕ) (d f : Entry K) → i < length xs → get_or xs i d ≡ get_or xs i f
      read_too [] i d f lt = absurd (omega (arith, lt))
      read_too (x ∷ xs) zero d f lt = refl
      read_too (x ∷ xs) (suc i) d f lt = read_too xs i d f (omega (arith, lt))

  pub items-removed : (new : List (Option T)) (i : ℕ) (d : Entry K) → i < length es → Updates slots new (get_or es i d).slot None → items_in new (remove es i) ≡ remove (items_in slots es) i
  items-removed new i d lt updates = items-same (item_in slots) (item_in new) (remove es i) (without new i d lt updates) ∙ items-remove (item_in slots) es i r.live lt

  pub IsListed-removed : (new : List (Option T)) (i : ℕ) (d : Entry K) → i < length es → Updates slots new (get_or es i d).slot None → live_count new + 1 ≡ live_count slots → IsListed by sort cmp new (remove es i)
  IsListed-removed new i d lt updates fewer =
      let len = length-remove es i lt in
      let kept = without new i d lt updates in
      record {
        live = λ j f in_range. rw (kept j f in_range) (All-remove (λ e. IsSome (item_in slots e)) es i r.live j f in_range);
        keyed = λ j f in_range y found. All-remove (λ e. (x : T) → item_in slots e ≡ Some x → (k : K) → cmp (sort x) k ≡ cmp e.sort_key k) es i r.keyed j f in_range y (sym (kept j f in_range) ∙ found);
        counted = omega (arith, fewer, len, r.counted);
        ascending = rw (items-removed new i d lt updates) (ascending-remove o (items_in slots es) i (omega (arith, long, lt)) r.ascending);
      }

module _ {T K : Type 0} where
  -- as many different live slots as there are have all items
  pub listed_once : (slots : List (Option T)) (es : List (Entry K)) → All (λ e. IsSome (item_in slots e)) es
      → ((i j : ℕ) (d : Entry K) → i < j → j < length es → (get_or es i d).slot ≢ (get_or es j d).slot) → live_count slots ≡ length es
      → IsPermutation (contents slots) (items_in slots es)
  listed_once slots [] live other count =
      let none : contents slots ≡ [] = empty (contents slots) (length-contents slots ∙ count) in
      subst (λ (xs : List T). IsPermutation xs []) (sym none) (IsPermutation-refl [])
  listed_once slots (e ∷ es) live other count = by_slot (item_in slots e) refl (live 0 e (omega arith)) (listed_once (set slots e.slot None) es)
    where
      by_slot : (o : Option T) → item_in slots e ≡ o → IsSome (item_in slots e)
          → (All (λ f. IsSome (item_in (set slots e.slot None) f)) es → ((i j : ℕ) (d : Entry K) → i < j → j < length es → (get_or es i d).slot ≢ (get_or es j d).slot)
          → live_count (set slots e.slot None) ≡ length es → IsPermutation (contents (set slots e.slot None)) (items_in (set slots e.slot None) es))
          → IsPermutation (contents slots) (items_in slots (e ∷ es))
      by_slot None is here more = absurd (false≢true (rw is at here))
      by_slot (Some x) is here more =
          let left = set slots e.slot None in
          let out : IsPermutation (contents slots) (x ∷ contents left) = contents-take slots e.slot x is in
          let kept : (i : ℕ) (d : Entry K) → i < length es → item_in left (get_or es i d) ≡ item_in slots (get_or es i d) =
          λ i d lt. get_or-set_other slots e.slot (get_or es i d).slot None None (λ same. other 0 (suc i) d (omega arith) (omega arith) (sym same)) in
          let fewer : live_count left ≡ length es =
          omega (arith, length_permutation _ _ out, length-contents slots, length-contents left, count) in
          let rest : IsPermutation (contents left) (items_in left es) =
          more (λ i d lt. rw (kept i d lt) (live (suc i) d (omega arith))) (λ i j d lt in_range. other (suc i) (suc j) d (omega arith) (omega arith)) fewer in
          let same : items_in left es ≡ items_in slots es = items-same (item_in slots) (item_in left) es kept in
          let all : IsPermutation (contents slots) (x ∷ items_in slots es) =
          IsPermutation-trans _ _ _ out (IsPermutation-cons x _ _ (subst (λ (xs : List T). IsPermutation (contents left) xs) same rest)) in
          rw is all

module _ {T K : Type 0} {by : T → T → Ordering} (o : IsTotalOrder by) (sort : T → K) {cmp : K → K → Ordering} (slots : List (Option T)) (es : List (Entry K)) (r : IsListed by sort cmp slots es) where
  -- the items that are listed are all items
  pub IsPermutation-listed : IsPermutation (contents slots) (items_in slots es)
  IsPermutation-listed = listed_once slots es r.live (apart o sort slots es r) r.counted

  -- the item of a slot is listed
  pub Contains-listed : (slot : ℕ) (x : T) → get slots slot ≡ Some x → Contains (items_in slots es) x
  Contains-listed slot x is = Contains-permutation (contents slots) (items_in slots es) x IsPermutation-listed (content_at slots slot x is)
