-- Worked rows of bags that are built, copied, filtered and rewritten, with outcomes that these words do not allow.
use Rattle.std.specs.Prelude.{◌≡◌, ℕ, Bool, true, false, List, [], ◌∷◌, length, ◌==◌, cond, Option, Some, None, IsPermutation, Result, Ok, Err}
use Rattle.std.specs.List.{items_where_true}
use Rattle.std.specs.List.Retain.{ReturnsInTurn}
use Rattle.std.proofs.Common.{refl, ap, subst, ◌∙◌, arith, get_or}
use Rattle.std.proofs.lemmas.List.Elements.{length_all_zip}
use Rattle.std.proofs.lemmas.List.Sorted.{IsPermutation-refl, length_permutation, sum_by-IsPermutation}
use Rattle.std.proofs.lemmas.Bool.{false≢true, true≢false}
use Rattle.iddqd_store.proofs.BagLemmas.Exchanges.{IsPermutation-flip}
use Rattle.test_store.proofs.BagRows.{Item, pairs}
use Rattle.iddqd_store.specs.Bag.{IsCopy, Keeps, add}
use Rattle.iddqd_store.specs.Bag.Building.{AddsTo, RefusesFor, HasPlaceFor}
use Rattle.iddqd_store.specs.Bag.Storing.{RewritesAll}
use Rattle.iddqd_store.proofs.CallerLemmas.Updates.{rewritten-filter_map}

abbrev one : List Item
one = (1, 10, 0) ∷ []

abbrev two : List Item
two = (1, 10, 0) ∷ (2, 20, 0) ∷ []

abbrev Added : Type 0
Added = Result (List Item) (Item × List Item)

-- how many items there are after an addition, and the first key of the first conflicting one
abbrev count : Added → ℕ
count (Ok made) = length made
count (Err refusal) = 0

abbrev first_conflict : Added → ℕ
first_conflict (Ok made) = 0
first_conflict (Err refusal) = (get_or refusal.1 0 refusal.0).0

made_of : (xs made : List Item) → ◌≡◌ {A = Added} (Ok xs) (Ok made) → made ≡ xs
made_of xs made e = cc

added : AddsTo pairs [] two two
added = ((2, 20, 0) ∷ (1, 10, 0) ∷ [], refl, IsPermutation-flip (1, 10, 0) (2, 20, 0) [])

none_lost : AddsTo pairs [] one two → ⊥
none_lost adds = omega (arith, length_permutation _ _ adds.2, ap count adds.1)

none_added_at_a_conflict : AddsTo pairs [] two ((1, 10, 0) ∷ (1, 20, 0) ∷ []) → ⊥
none_added_at_a_conflict adds = omega (arith, length_permutation _ _ adds.2, ap count adds.1)

refused : RefusesFor pairs (2, 10, 5) ((2, 20, 0) ∷ (1, 10, 0) ∷ []) two
refused = ((2, 20, 0) ∷ (1, 10, 0) ∷ [], refl, refl)

not_in_another_order : RefusesFor pairs (2, 10, 5) two two → ⊥
not_in_another_order refuses =
    let is : refuses.0 ≡ (2, 20, 0) ∷ (1, 10, 0) ∷ [] = made_of ((2, 20, 0) ∷ (1, 10, 0) ∷ []) refuses.0 refuses.1 in
    let then = subst (λ (made : List Item). add pairs made (2, 10, 5) ≡ Err ((2, 10, 5), two)) is refuses.2 in
    omega (arith, ap first_conflict then)

not_without_a_conflict : (listed : List Item) → RefusesFor pairs (3, 30, 0) listed one → ⊥
not_without_a_conflict listed refuses =
    let is : refuses.0 ≡ one = made_of one refuses.0 refuses.1 in
    let then = subst (λ (made : List Item). add pairs made (3, 30, 0) ≡ Err ((3, 30, 0), listed)) is refuses.2 in
    omega (arith, ap count then)

a_place : HasPlaceFor pairs (3, 30, 0) two
a_place = ((2, 20, 0) ∷ (1, 10, 0) ∷ [], refl, refl)

no_place_at_a_conflict : HasPlaceFor pairs (1, 20, 0) one → ⊥
no_place_at_a_conflict place =
    let is : place.0 ≡ one = made_of one place.0 place.1 in
    let then = subst (λ (made : List Item). add pairs made (1, 20, 0) ≡ Ok ((1, 20, 0) ∷ made)) is place.2 in
    omega (arith, ap count then)

-- a copy has a clone of each member, and nothing else
none_left_out : (is_clone : Item → Item → Type 0) (bag other : List Item) → IsCopy is_clone bag other → length other ≡ length bag
none_left_out is_clone bag other copy = omega (arith, length_permutation _ _ copy.1, length_all_zip is_clone bag copy.0 copy.2)

-- a closure that returns `true` at each item keeps each, and one that returns `false` keeps none
module _ {F : Type 0} (step : F → Item → Bool → F → Type 0) where
  all_left : ((f g : F) (x : Item) (b : Bool) → step f x b g → b ≡ true) → (f g : F) (bs : List Bool) (xs : List Item) → length bs ≡ length xs
      → ReturnsInTurn step f bs xs g → items_where_true bs xs ≡ xs
  all_left says f g [] [] long run = refl
  all_left says f g [] (x ∷ xs) long run = absurd (omega (arith, long))
  all_left says f g (b ∷ bs) [] long run = absurd run
  all_left says f g (true ∷ bs) (x ∷ xs) long run = ap (λ l. x ∷ l) (all_left says run.0 g bs xs (omega (arith, long)) run.2)
  all_left says f g (false ∷ bs) (x ∷ xs) long run = absurd (false≢true (says f run.0 x false run.1))

  none_dropped : ((f g : F) (x : Item) (b : Bool) → step f x b g → b ≡ true) → (f : F) (bag kept : List Item) → Keeps step f bag kept → length kept ≡ length bag
  none_dropped says f bag kept keeps =
      let ran = keeps.filtered in
      let left = ran.4 ∙ all_left says f ran.1 ran.0 keeps.listed ran.2 ran.3 in
      omega (arith, length_permutation _ _ keeps.same, length_permutation _ _ keeps.are, ap length left)

  none_left : ((f g : F) (x : Item) (b : Bool) → step f x b g → b ≡ false) → (f g : F) (bs : List Bool) (xs : List Item) → ReturnsInTurn step f bs xs g → items_where_true bs xs ≡ []
  none_left says f g [] xs run = refl
  none_left says f g (b ∷ bs) [] run = absurd run
  none_left says f g (false ∷ bs) (x ∷ xs) run = none_left says run.0 g bs xs run.2
  none_left says f g (true ∷ bs) (x ∷ xs) run = absurd (true≢false (says f run.0 x true run.1))

  none_kept : ((f g : F) (x : Item) (b : Bool) → step f x b g → b ≡ false) → (f : F) (bag kept : List Item) → Keeps step f bag kept → length kept ≡ 0
  none_kept says f bag kept keeps =
      let ran = keeps.filtered in
      let left = ran.4 ∙ none_left says f ran.1 ran.0 keeps.listed ran.3 in
      omega (arith, length_permutation _ _ keeps.are, ap length left)

-- a closure that returns `Some 7` at the first key 1, and else `None`
abbrev answer : Item → Option ℕ
answer x = cond (x.0 == 1) (Some 7) None

abbrev put : Item → ℕ → Item
put x d = (x.0, x.1, d)

abbrev Answers : ℕ → Item → Option ℕ → ℕ → Type 0
Answers f x o g = (o ≡ answer x) × (g ≡ f)

rewritten : RewritesAll Answers put 0 two ((1, 10, 7) ∷ [])
rewritten = record {
  listed = two;
  same = IsPermutation-refl two;
  left = (1, 10, 7) ∷ [];
  rewrites = (Some 7, 0, [], (refl, refl), refl, (None, 0, [], (refl, refl), refl, refl));
  are = IsPermutation-refl ((1, 10, 7) ∷ []);
}

-- nothing else is allowed
rewritten_only : (new : List Item) → RewritesAll Answers put 0 two new → IsPermutation new ((1, 10, 7) ∷ [])
rewritten_only new h = rewritten-filter_map Answers put (λ _ x. answer x) (λ f x o g called. (called.0, λ y. refl)) 0 two new h

none_lost_where_data : RewritesAll Answers put 0 two [] → ⊥
none_lost_where_data h = omega (arith, length_permutation _ _ (rewritten_only [] h))

none_twice : RewritesAll Answers put 0 two ((1, 10, 7) ∷ (1, 10, 7) ∷ []) → ⊥
none_twice h = omega (arith, length_permutation _ _ (rewritten_only _ h))

not_as_it_was : RewritesAll Answers put 0 two one → ⊥
not_as_it_was h = omega (arith, sum_by-IsPermutation (λ (x : Item). x.2) _ _ (rewritten_only one h))

none_kept_without_data : RewritesAll Answers put 0 two ((2, 20, 7) ∷ []) → ⊥
none_kept_without_data h = omega (arith, sum_by-IsPermutation (λ (x : Item). x.0) _ _ (rewritten_only _ h))
