-- What an entry still finds once the item of its first key is written.
use Rattle.std.specs.Prelude.{◌≡◌, ◌≢◌, ℕ, zero, suc, Bool, true, false, ◌||◌, cond, nat_eq, is_some, List, [], ◌∷◌, ◌++◌, drop, fold, Option, Some, None, slice_set}
use Rattle.std.specs.List.{list_all}
use Rattle.std.specs.Option.{option_and_then, option_to_list}
use Rattle.std.proofs.Common.{refl, sym, ap, subst, ◌∙◌}
use Rattle.std.proofs.lemmas.Bool.{eqb-false, ne_eqb}
use Rattle.std.proofs.lemmas.List.{get_or-set_other}
use Rattle.iddqd_store.specs.Bag.{entry_of, is_unique}
use Rattle.iddqd_store.specs.Map.{Map}
use Rattle.iddqd_store.specs.Map.Written.{map_with_if, of_item}
use Rattle.iddqd_store.specs.Slots.{get}
use Rattle.iddqd_store.specs.Slots.Found.{AreFound, contains, each_once, entry_at, found_by_all, held_at, is_at, items_at, with_found}
use Rattle.iddqd_store.proofs.BagLemmas.Exchanges.{split}

neither : (a b : Bool) → (a || b) ≡ false → (a ≡ false) × (b ≡ false)
neither true b h = absurd (cc h)
neither false b h = (refl, h)

nat_eq-flip : (a b : ℕ) → nat_eq a b ≡ false → nat_eq b a ≡ false
nat_eq-flip a b apart = ne_eqb b a (λ e. eqb-false a b apart (sym e))

contains-push : (ys : List ℕ) (j slot : ℕ) → contains ys slot ≡ false → nat_eq slot j ≡ false → contains (ys ++ j ∷ []) slot ≡ false
contains-push [] j slot none apart = rw apart refl
contains-push (k ∷ ys) j slot none apart =
    let both = neither (nat_eq slot k) (contains ys slot) none in
    rw both.0 (contains-push ys j slot both.1 apart)

module _ {T : Type 0} where
  unique_of : (listed : List T) (o : Option T) → listed ≢ [] → is_unique (entry_of listed (option_to_list o)) ≡ is_some o
  unique_of [] o some = absurd (some refl)
  unique_of (x ∷ listed) None some = refl
  unique_of (x ∷ listed) (Some y) some = refl

  whole_still : (tests : List (T → Bool)) (old new : List (Option T)) (found : List (Option ℕ)) → AreFound tests old found → AreFound tests new found
      → is_some (option_and_then (get new) (found_by_all found)) ≡ is_some (option_and_then (get old) (found_by_all found))
  whole_still tests old new [] was is = refl
  whole_still tests old new (None ∷ found) was is = refl
  whole_still [] old new (Some slot ∷ found) was is = absurd was
  whole_still (test ∷ tests) old new (Some slot ∷ found) was is =
      split (λ b. is_some (option_and_then (get new) (cond b (Some slot) None)) ≡ is_some (option_and_then (get old) (cond b (Some slot) None))) (list_all (is_at slot) found)
      (λ _. is.0.live ∙ sym was.0.live) (λ _. refl)

  -- an entry still tells whether one item has all keys
  pub still_unique : (tests : List (T → Bool)) (old new : List (Option T)) (found : List (Option ℕ)) → AreFound tests old found
      → AreFound tests new found → held_at old found ≢ [] → held_at new found ≢ [] → is_unique (entry_at new found) ≡ is_unique (entry_at old found)
  still_unique tests old new found was is some_old some_new =
      unique_of (held_at new found) (option_and_then (get new) (found_by_all found)) some_new ∙ whole_still tests old new found was is
      ∙ sym (unique_of (held_at old found) (option_and_then (get old) (found_by_all found)) some_old)

  get-set_other : (slots : List (Option T)) (at k : ℕ) (o : Option T) → nat_eq at k ≡ false → get (slice_set slots at o) k ≡ get slots k
  get-set_other slots at k o apart = get_or-set_other slots at k o None (λ e. eqb-false at k apart (sym e))

  get-set_same : (slots : List (Option T)) (at : ℕ) (x y : T) → get slots at ≡ Some x → get (slice_set slots at (Some y)) at ≡ Some y
  get-set_same [] zero x y is = absurd (cc is)
  get-set_same [] (suc at) x y is = absurd (cc is)
  get-set_same (o ∷ slots) zero x y is = refl
  get-set_same (o ∷ slots) (suc at) x y is = get-set_same slots at x y is

  -- the items of other slots stay
  others_at : (slots : List (Option T)) (slot : ℕ) (o : Option T) (ys : List ℕ) → contains ys slot ≡ false → items_at (slice_set slots slot o) ys ≡ items_at slots ys
  others_at slots slot o [] apart = refl
  others_at slots slot o (k ∷ ys) apart =
      let both = neither (nat_eq slot k) (contains ys slot) apart in
      rw (get-set_other slots slot k o both.0, others_at slots slot o ys both.1) refl

  -- a written item is the first of those found, and the others are as they were
  first_written : (slots : List (Option T)) (slot : ℕ) (x y : T) → get slots slot ≡ Some x → (ys : List ℕ) (found : List (Option ℕ)) → contains ys slot ≡ false →
      items_at (slice_set slots slot (Some y)) (fold with_found (slot ∷ ys) found) ≡ y ∷ drop 1 (items_at slots (fold with_found (slot ∷ ys) found))
  first_written slots slot x y there ys [] none =
      rw (there, get-set_same slots slot x y there, others_at slots slot (Some y) ys none) refl
  first_written slots slot x y there ys (None ∷ found) none = first_written slots slot x y there ys found none
  first_written slots slot x y there ys (Some j ∷ found) none =
      split (λ b. items_at (slice_set slots slot (Some y)) (fold with_found (cond b (slot ∷ ys) (slot ∷ ys ++ j ∷ [])) found) ≡ y ∷ drop 1
      (items_at slots (fold with_found (cond b (slot ∷ ys) (slot ∷ ys ++ j ∷ [])) found))) (contains (slot ∷ ys) j)
      (λ _. first_written slots slot x y there ys found none)
      (λ apart. first_written slots slot x y there (ys ++ j ∷ []) found (contains-push ys j slot none (nat_eq-flip j slot (neither (nat_eq j slot) (contains ys j) apart).0)))

  -- so where it is the item of the first key
  pub held_written : {S : Type 0} (m : Map T S) (slot : Option ℕ) (found : List (Option ℕ)) (f : T → T) (x : T) (xs : List T) → option_to_list (option_and_then (get m.slots) slot) ≡ xs → x ∷ [] ≡ xs →
      held_at (map_with_if m slot f).slots (slot ∷ found) ≡ f x ∷ drop 1 (held_at m.slots (slot ∷ found))
  held_written m None found f x xs none only = absurd (cc (none, only))
  held_written m (Some slot) found f x xs some only = by_slot (get m.slots slot) refl some
    where
      by_slot : (o : Option T) → get m.slots slot ≡ o → option_to_list o ≡ xs → held_at (map_with_if m (Some slot) f).slots (Some slot ∷ found) ≡ f x ∷ drop 1 (held_at m.slots (Some slot ∷ found))
      by_slot None there is = absurd (cc (is, only))
      by_slot (Some y) there is =
          let same : y ≡ x = cc (is, only) in
          let written : of_item f (get m.slots slot) ≡ Some (f x) = ap (of_item f) (there ∙ ap Some same) in
          subst (λ o. items_at (slice_set m.slots slot o) (each_once (Some slot ∷ found)) ≡ f x ∷ drop 1 (held_at m.slots (Some slot ∷ found)))
          (sym written) (first_written m.slots slot x (f x) (there ∙ ap Some same) [] found refl)
