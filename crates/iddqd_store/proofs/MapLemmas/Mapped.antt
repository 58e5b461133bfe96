-- A map in which the only item that passes a test was written, as a function of each of its items.
use Rattle.std.specs.Prelude.{◌≡◌, ℕ, zero, suc, Bool, true, false, cond, List, [], ◌∷◌, map, filter, Option, Some, None, IsPermutation, slice_set}
use Rattle.std.specs.List.{AllByRecursion}
use Rattle.std.proofs.Common.{refl, sym, ap, subst, ◌∙◌}
use Rattle.std.proofs.lemmas.Bool.{false≢true}
use Rattle.std.proofs.lemmas.List.{set-get_or}
use Rattle.std.proofs.lemmas.List.Sorted.{IsPermutation-refl}
use Rattle.iddqd_store.specs.Bag.{IsOnly}
use Rattle.iddqd_store.specs.Bag.Storing.{MapsOne}
use Rattle.iddqd_store.specs.Map.{Map, bag}
use Rattle.iddqd_store.specs.Map.Written.{map_with, of_item}
use Rattle.iddqd_store.specs.Slots.{contents, get}
use Rattle.iddqd_store.specs.Slots.Found.{FoundAt}
use Rattle.iddqd_store.proofs.BagLemmas.Sound.{each_passes}
use Rattle.iddqd_store.proofs.MapLemmas.Updating.{found_one}

module _ {T : Type 0} (test : T → Bool) where
  -- an item of a slot fails, if no item passes
  pub fails_at : (slots : List (Option T)) (at : ℕ) (x : T) → get slots at ≡ Some x → filter test (contents slots) ≡ [] → test x ≡ false
  fails_at [] zero x is none = absurd (cc is)
  fails_at [] (suc at) x is none = absurd (cc is)
  fails_at (None ∷ slots) zero x is none = absurd (cc is)
  fails_at (Some z ∷ slots) zero x is none = let same : x ≡ z = cc is in ap test same ∙ by (test z) refl none
    where
      by : (b : Bool) → test z ≡ b → cond b (z ∷ filter test (contents slots)) (filter test (contents slots)) ≡ [] → test z ≡ false
      by true e h = absurd (cc h)
      by false e h = e
  fails_at (None ∷ slots) (suc at) x is none = fails_at slots at x is none
  fails_at (Some z ∷ slots) (suc at) x is none = by (test z) (fails_at slots at x is) none
    where
      by : (b : Bool) → (filter test (contents slots) ≡ [] → test x ≡ false)
          → cond b (z ∷ filter test (contents slots)) (filter test (contents slots)) ≡ [] → test x ≡ false
      by true rest h = absurd (cc h)
      by false rest h = rest h

module _ {T : Type 0} (test : T → Bool) (write : T → T) (stays : (x : T) → test x ≡ false → write x ≡ x) where
  -- where no item passes, each stays
  unmapped : (xs : List T) → filter test xs ≡ [] → xs ≡ map write xs
  unmapped [] none = refl
  unmapped (x ∷ xs) none = by (test x) refl (unmapped xs) none
    where
      by : (b : Bool) → test x ≡ b → (filter test xs ≡ [] → xs ≡ map write xs)
          → cond b (x ∷ filter test xs) (filter test xs) ≡ [] → x ∷ xs ≡ map write (x ∷ xs)
      by true e rest h = absurd (cc h)
      by false e rest h = ap (λ l. x ∷ l) (rest h) ∙ ap (λ y. y ∷ map write xs) (sym (stays x e))

  -- where the item of this slot is the only one that passes, the others stay
  mapped_at : (slots : List (Option T)) (at : ℕ) (x y : T) → get slots at ≡ Some x → test x ≡ true → IsOnly test (contents slots) (Some x)
      → write x ≡ y → contents (slice_set slots at (Some y)) ≡ map write (contents slots)
  mapped_at [] zero x y is passes only one = absurd (cc is)
  mapped_at [] (suc at) x y is passes only one = absurd (cc is)
  mapped_at (None ∷ slots) zero x y is passes only one = absurd (cc is)
  mapped_at (Some z ∷ slots) zero x y is passes only one =
      let same : z ≡ x = cc is in
      let there : x ∷ [] ≡ z ∷ filter test (contents slots) = rw (ap test same ∙ passes) at only in
      let none : filter test (contents slots) ≡ [] = cc there in
      ap (λ w. w ∷ contents slots) (sym (ap write same ∙ one)) ∙ ap (λ l. write z ∷ l) (unmapped (contents slots) none)
  mapped_at (None ∷ slots) (suc at) x y is passes only one = mapped_at slots at x y is passes only one
  mapped_at (Some z ∷ slots) (suc at) x y is passes only one = by (test z) refl (λ o. mapped_at slots at x y is passes o one) only
    where
      by : (b : Bool) → test z ≡ b → (IsOnly test (contents slots) (Some x) → contents (slice_set slots at (Some y)) ≡ map write (contents slots))
          → x ∷ [] ≡ cond b (z ∷ filter test (contents slots)) (filter test (contents slots))
          → z ∷ contents (slice_set slots at (Some y)) ≡ map write (z ∷ contents slots)
      by true e rest h = let none : filter test (contents slots) ≡ [] = cc h in absurd (false≢true (sym (fails_at test slots at x is none) ∙ passes))
      by false e rest h = ap (λ l. z ∷ l) (rest h) ∙ ap (λ w. w ∷ map write (contents slots)) (sym (stays z e))

module _ {T D S : Type 0} (answers : T → D → Type 0) (put : T → D → T) (test : T → Bool) (m : Map T S) where
  -- the item that was found is written, and every other one stays
  pub maps_found : (slot : ℕ) → FoundAt test m.slots (Some slot) → (x : T) (d : D) → get m.slots slot ≡ Some x → answers x d
      → MapsOne answers put test (bag m) (bag (map_with m slot (λ y. put y d)))
  maps_found slot found x d here answer = λ write one stays.
      (let only = found_one test m.slots slot x found here in
      let passes : test x ≡ true = (subst (AllByRecursion (λ y. test y ≡ true)) (sym only) (each_passes test (bag m))).0 in
      let whole : contents (slice_set m.slots slot (of_item (λ y. put y d) (get m.slots slot))) ≡ map write (contents m.slots) =
      ap (λ o. contents (slice_set m.slots slot (of_item (λ y. put y d) o))) here ∙ mapped_at test write stays m.slots slot x (put x d) here passes only (one x d passes answer) in
      subst (IsPermutation (contents (slice_set m.slots slot (of_item (λ y. put y d) (get m.slots slot))))) whole (IsPermutation-refl _))

  -- if none was found, nothing changes
  pub maps_absent : FoundAt test m.slots None → MapsOne answers put test (bag m) (bag m)
  maps_absent found = λ write one stays. subst (IsPermutation (bag m)) (unmapped test write stays (bag m) (sym found.only)) (IsPermutation-refl (bag m))

-- an item that a write leaves as it is leaves the map as it is
pub same_with : {T S : Type 0} (m : Map T S) (slot : ℕ) (f : T → T) (x : T) → get m.slots slot ≡ Some x → f x ≡ x → map_with m slot f ≡ m
same_with m slot f x here same =
    ap (λ o. record m { slots = slice_set m.slots slot o }) (ap (of_item f) here ∙ ap Some same ∙ sym here)
    ∙ ap (λ l. record m { slots = l }) (set-get_or m.slots slot None)
