-- Worked rows of what a closure that computes a function, or a write through a reference, makes of a bag, with outcomes that
-- these words do not allow.
use Rattle.std.specs.Prelude.{◌≡◌, ℕ, Bool, true, false, List, [], ◌∷◌, ◌==◌, cond, Option, Some, None, option_map, sum_by, IsPermutation}
use Rattle.std.proofs.Common.{refl, sym, subst, ap, ◌∙◌, arith}
use Rattle.std.proofs.lemmas.Bool.{false≢true, true≢false}
use Rattle.std.proofs.lemmas.List.Sorted.{IsPermutation-refl, length_permutation, sum_by-IsPermutation}
use Rattle.iddqd_store.specs.Bag.{Filters}
use Rattle.iddqd_store.specs.Bag.Storing.{FilterMapsAll, MapsAll, MapsOne}
use Rattle.iddqd_store.specs.Map.{Map, bag}
use Rattle.iddqd_store.specs.Map.Written.{put_where, slots_where}
use Rattle.test_store.proofs.BagRows.{Item}

abbrev two : List Item
two = (1, 10, 0) ∷ (2, 20, 0) ∷ []

abbrev put : Item → ℕ → Item
put x d = (x.0, x.1, d)

abbrev third : Item → ℕ
third x = x.2

-- a closure that tells whether the first key is 1
abbrev Tells : ℕ → Item → Bool → ℕ → Type 0
Tells f x b g = (b ≡ (x.0 == 1)) × (g ≡ f)

filtered : Filters Tells 0 two ((1, 10, 0) ∷ [])
filtered = λ test same.
    let first : true ≡ test (1, 10, 0) = (same (1, 10, 0) true 0 (refl, refl)).1 in
    let second : false ≡ test (2, 20, 0) = (same (2, 20, 0) false 0 (refl, refl)).1 in
    rw (← first, ← second) (IsPermutation-refl ((1, 10, 0) ∷ []))

filtered_only : (kept : List Item) → Filters Tells 0 two kept → IsPermutation kept ((1, 10, 0) ∷ [])
filtered_only kept h = h (λ x. x.0 == 1) (λ x b g told. (told.1, told.0))

not_all_kept : Filters Tells 0 two two → ⊥
not_all_kept h = omega (arith, length_permutation _ _ (filtered_only two h))

not_the_other_kept : Filters Tells 0 two ((2, 20, 0) ∷ []) → ⊥
not_the_other_kept h = omega (arith, sum_by-IsPermutation (λ (x : Item). x.0) _ _ (filtered_only _ h))

-- a closure that returns 7
abbrev Returns : ℕ → Item → ℕ → ℕ → Type 0
Returns f x d g = (d ≡ 7) × (g ≡ f)

mapped_only : (new : List Item) → MapsAll Returns put 0 two new → IsPermutation new ((1, 10, 7) ∷ (2, 20, 7) ∷ [])
mapped_only new h = h (λ x. put x 7) (λ x d g told. (told.1, rw told.0 refl))

mapped : MapsAll Returns put 0 two ((1, 10, 7) ∷ (2, 20, 7) ∷ [])
mapped = λ write same.
    let first = (same (1, 10, 0) 7 0 (refl, refl)).1 in
    let second = (same (2, 20, 0) 7 0 (refl, refl)).1 in
    rw (first, second) (IsPermutation-refl ((1, 10, 7) ∷ (2, 20, 7) ∷ []))

none_as_it_was : MapsAll Returns put 0 two ((1, 10, 7) ∷ (2, 20, 0) ∷ []) → ⊥
none_as_it_was h = omega (arith, sum_by-IsPermutation third _ _ (mapped_only _ h))

-- a closure that returns `Some 7` at the first key 1, and else `None`
abbrev answer : Item → Option ℕ
answer x = cond (x.0 == 1) (Some 7) None

abbrev Answers : ℕ → Item → Option ℕ → ℕ → Type 0
Answers f x o g = (o ≡ answer x) × (g ≡ f)

left_only : (new : List Item) → FilterMapsAll Answers put 0 two new → IsPermutation new ((1, 10, 7) ∷ [])
left_only new h = h (λ x. option_map (put x) (answer x)) (λ x o g told. (told.1, rw told.0 refl))

not_left_as_it_was : FilterMapsAll Answers put 0 two ((1, 10, 0) ∷ []) → ⊥
not_left_as_it_was h = omega (arith, sum_by-IsPermutation third _ _ (left_only _ h))

not_left_without_data : FilterMapsAll Answers put 0 two ((1, 10, 7) ∷ (2, 20, 0) ∷ []) → ⊥
not_left_without_data h = omega (arith, length_permutation _ _ (left_only _ h))

-- one item, whose first key is 2, gets 7
abbrev only : Item → Bool
only x = x.0 == 2

abbrev written : Item → Item
written x = cond (only x) (put x 7) x

written_there : (b : Bool) (x : Item) → b ≡ true → cond b (put x 7) x ≡ put x 7
written_there true x h = refl
written_there false x h = absurd (false≢true h)

written_else : (b : Bool) (x : Item) → b ≡ false → cond b (put x 7) x ≡ x
written_else true x h = absurd (true≢false h)
written_else false x h = refl

one_only : (new : List Item) → MapsOne (λ x d. d ≡ 7) put only two new → IsPermutation new ((1, 10, 0) ∷ (2, 20, 7) ∷ [])
one_only new h = h written (λ x d has is. rw is (written_there (only x) x has)) (λ x fails. written_else (only x) x fails)

one_written : MapsOne (λ x d. d ≡ 7) put only two ((1, 10, 0) ∷ (2, 20, 7) ∷ [])
one_written = λ write has fails.
    let first = fails (1, 10, 0) refl in
    let second = has (2, 20, 0) 7 refl refl in
    rw (first, second) (IsPermutation-refl ((1, 10, 0) ∷ (2, 20, 7) ∷ []))

not_another_written : MapsOne (λ x d. d ≡ 7) put only two ((1, 10, 7) ∷ (2, 20, 7) ∷ []) → ⊥
not_another_written h = omega (arith, sum_by-IsPermutation third _ _ (one_only _ h))

not_nothing_written : MapsOne (λ x d. d ≡ 7) put only two two → ⊥
not_nothing_written h = omega (arith, sum_by-IsPermutation third _ _ (one_only _ h))

-- data that are written through a reference
abbrev held : Map Item ℕ
held = record { slots = Some (1, 10, 0) ∷ None ∷ Some (2, 20, 0) ∷ []; capacity = 7; builder = 5 }

put_in_one : put_where put only held 7 ≡ record held { slots = Some (1, 10, 0) ∷ None ∷ Some (2, 20, 7) ∷ [] }
unfolding slots_where
put_in_one = refl

put_in_none : put_where put (λ x. x.0 == 9) held 7 ≡ held
unfolding slots_where
put_in_none = refl

not_put_in_another : IsPermutation (bag (put_where put only held 7)) ((1, 10, 7) ∷ (2, 20, 7) ∷ []) → ⊥
not_put_in_another h =
    omega (arith, sum_by-IsPermutation third _ _ (subst (λ (m : Map Item ℕ). IsPermutation (bag m) ((1, 10, 7) ∷ (2, 20, 7) ∷ [])) put_in_one h))

not_put_nowhere : put_where put only held 7 ≡ held → ⊥
not_put_nowhere h = omega (arith, ap (λ (m : Map Item ℕ). sum_by third (bag m)) (sym put_in_one ∙ h))
