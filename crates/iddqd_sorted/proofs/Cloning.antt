-- A clone of the slots, with the same entries.
use Rattle.std.proofs.Common.{◌≡◌, ℕ, zero, suc, ◌<◌, true, List, [], ◌∷◌, Option, Some, None, IsSome, All, length, get_or, refl, sym, ap, ◌∙◌, arith}
use Rattle.std.specs.Prelude.{Contains}
use Rattle.std.specs.List.{AllZip}
use Rattle.std.specs.Cmp.{IsTotalOrder, alike_right}
use Rattle.std.specs.Ordering.{is_eq}
use Rattle.std.specs.declared.cmp.Ordering.{Ordering}
use Rattle.std.specs.declared.cmp.Ordering.TheVariants.{Less, Equal, Greater}
use Rattle.std.proofs.lemmas.Bool.{false≢true}
use Rattle.std.proofs.lemmas.Cmp.{tied_itself}
use Rattle.std.proofs.lemmas.List.Elements.{AllZip-get_or, Contains-get_or, length_all_zip}
use Rattle.iddqd_store.specs.Slots.{get, contents, live_count, IsSlotClone}
use Rattle.iddqd_store.proofs.SlotLemmas.Contents.{length-contents}
use Rattle.iddqd_sorted.specs.declared.entry.Entry.{Entry}
use Rattle.iddqd_sorted.specs.Entries.{IsListed, item_in, items_in}
use Rattle.iddqd_sorted.specs.Items.{by_sort}
use Rattle.iddqd_sorted.specs.Ordered.{IsAscending}
use Rattle.iddqd_sorted.proofs.Listed.{Contains-listed}

is_equal : (o : Ordering) → is_eq o ≡ true → o ≡ Equal
is_equal Less e = absurd (false≢true e)
is_equal Equal e = refl
is_equal Greater e = absurd (false≢true e)

-- items with one sort key and equal first keys have one place
pub one_place : {T K Key : Type 0} (sort : T → K) {cmp : K → K → Ordering} (sorts : IsTotalOrder cmp) (key : T → Key) (cmp_key : Key → Key → Ordering) (x c : T)
    → sort c ≡ sort x → is_eq (cmp_key (key x) (key c)) ≡ true → by_sort sort cmp key cmp_key x c ≡ Equal
one_place sort sorts key cmp_key x c same level = rw (same, tied_itself sorts (sort x)) (is_equal (cmp_key (key x) (key c)) level)

module _ {T : Type 0} (is_clone : T → T → Type 0) where
  -- the slot of a clone
  pub clone_at : (slots copies : List (Option T)) (slot : ℕ) (x : T) → AllZip (IsSlotClone is_clone) slots copies → get slots slot ≡ Some x
      → (c : T) × (get copies slot ≡ Some c) × is_clone x c
  clone_at [] copies slot x all is = absurd (cc is)
  clone_at (s ∷ slots) [] slot x all is = absurd all
  clone_at (s ∷ slots) (c ∷ copies) (suc slot) x all is = clone_at slots copies slot x all.1 is
  clone_at (None ∷ slots) (c ∷ copies) zero x all is = absurd (cc is)
  clone_at (Some y ∷ slots) (None ∷ copies) zero x all is = absurd all.0
  clone_at (Some y ∷ slots) (Some c ∷ copies) zero x all is = let same : y ≡ x = cc is in (c, refl, rw (← same) all.0)

  contents-clones : (slots copies : List (Option T)) → AllZip (IsSlotClone is_clone) slots copies → AllZip is_clone (contents slots) (contents copies)
  contents-clones [] [] all = tt
  contents-clones [] (c ∷ copies) all = absurd all
  contents-clones (s ∷ slots) [] all = absurd all
  contents-clones (None ∷ slots) (c ∷ copies) all = rw all.0 (contents-clones slots copies all.1)
  contents-clones (Some x ∷ slots) (None ∷ copies) all = absurd all.0
  contents-clones (Some x ∷ slots) (Some c ∷ copies) all = (all.0, contents-clones slots copies all.1)

  live-clones : (slots copies : List (Option T)) → AllZip (IsSlotClone is_clone) slots copies → live_count copies ≡ live_count slots
  live-clones slots copies all = omega (arith, length-contents slots, length-contents copies, length_all_zip is_clone _ _ (contents-clones slots copies all))

  module _ {K : Type 0} (slots copies : List (Option T)) (all : AllZip (IsSlotClone is_clone) slots copies) where
    pub items-cloned : (es : List (Entry K)) → All (λ e. IsSome (item_in slots e)) es → AllZip is_clone (items_in slots es) (items_in copies es)
    items-cloned [] live = tt
    items-cloned (e ∷ es) live = by_slot (item_in slots e) refl (live 0 e (omega arith)) (items-cloned es (λ i d lt. live (suc i) d (omega (arith, lt))))
      where
        by_slot : (o : Option T) → item_in slots e ≡ o → IsSome (item_in slots e) → AllZip is_clone (items_in slots es) (items_in copies es)
            → AllZip is_clone (items_in slots (e ∷ es)) (items_in copies (e ∷ es))
        by_slot None is here more = absurd (false≢true (rw is at here))
        by_slot (Some x) is here more = let (c, there, cloned) = clone_at slots copies e.slot x all is in rw (is, there) (cloned, more)

    module _ {by : T → T → Ordering} (o : IsTotalOrder by) (sort : T → K) {cmp : K → K → Ordering} (es : List (Entry K)) (r : IsListed by sort cmp slots es)
        (level : (x c : T) → Contains (items_in slots es) x → is_clone x c → by x c ≡ Equal)
        (keyed : (x c : T) → Contains (items_in slots es) x → is_clone x c → sort c ≡ sort x) where
      cloned : AllZip is_clone (items_in slots es) (items_in copies es)
      cloned = items-cloned es r.live

      as_many : length (items_in slots es) ≡ length (items_in copies es)
      as_many = length_all_zip is_clone _ _ cloned

      still_live : (e : Entry K) → IsSome (item_in slots e) → IsSome (item_in copies e)
      still_live e live = by_slot (item_in slots e) refl live
        where
          by_slot : (s : Option T) → item_in slots e ≡ s → IsSome (item_in slots e) → IsSome (item_in copies e)
          by_slot None is here = absurd (false≢true (rw is at here))
          by_slot (Some x) is here = rw ((clone_at slots copies e.slot x all is).1) refl

      still_keyed : (e : Entry K) → IsSome (item_in slots e) → ((x : T) → item_in slots e ≡ Some x → (k : K) → cmp (sort x) k ≡ cmp e.sort_key k) → (c : T) → item_in copies e ≡ Some c
          → (k : K) → cmp (sort c) k ≡ cmp e.sort_key k
      still_keyed e live has c found k = by_slot (item_in slots e) refl live
        where
          by_slot : (s : Option T) → item_in slots e ≡ s → IsSome (item_in slots e) → cmp (sort c) k ≡ cmp e.sort_key k
          by_slot None is here = absurd (false≢true (rw is at here))
          by_slot (Some x) is here =
              let (d, there, from) = clone_at slots copies e.slot x all is in
              let one : Some c ≡ Some d = sym found ∙ there in
              let same : c ≡ d = cc one in
              ap (λ z. cmp z k) (ap sort same ∙ keyed x d (Contains-listed o sort slots es r e.slot x is) from) ∙ has x is k

      still_ascending : IsAscending by (items_in copies es)
      still_ascending i j d lt in_range =
          let xs = items_in slots es in
          let cs = items_in copies es in
          let i_lt : i < length xs = omega (arith, as_many, lt, in_range) in
          let j_lt : j < length xs = omega (arith, as_many, in_range) in
          let first = level (get_or xs i d) (get_or cs i d) (Contains-get_or xs i d i_lt) (AllZip-get_or is_clone xs cs i d d cloned i_lt) in
          let second = level (get_or xs j d) (get_or cs j d) (Contains-get_or xs j d j_lt) (AllZip-get_or is_clone xs cs j d d cloned j_lt) in
          sym (o.congr (get_or xs i d) (get_or cs i d) (get_or cs j d) first) ∙ sym (alike_right o (get_or xs j d) (get_or cs j d) (get_or xs i d) second) ∙ r.ascending i j d lt j_lt

      pub IsListed-cloned : IsListed by sort cmp copies es
      IsListed-cloned = record {
        live = λ i d lt. still_live (get_or es i d) (r.live i d lt);
        keyed = λ i d lt. still_keyed (get_or es i d) (r.live i d lt) (r.keyed i d lt);
        counted = live-clones slots copies all ∙ r.counted;
        ascending = still_ascending;
      }
