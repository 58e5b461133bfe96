-- An item that takes the place of the only one with its keys.
use Rattle.std.specs.Prelude.{◌≡◌, ◌<◌, Bool, true, not, ◌||◌, List, [], ◌∷◌, ◌++◌, length, filter, IsPermutation}
use Rattle.std.proofs.Common.{refl, sym, subst, arith}
use Rattle.std.proofs.lemmas.Bool.{and_parts}
use Rattle.std.proofs.lemmas.List.Sorted.{IsPermutation-filter_both, length_permutation}
use Rattle.iddqd_store.specs.Bag.{Ranks, AreLawful, agrees, do_conflict}

module _ {T : Type 0} where
  -- the only one that passes, and those that do not
  pub IsPermutation-only : (p : T → Bool) (xs : List T) (f : T) → f ∷ [] ≡ filter p xs → IsPermutation xs (f ∷ filter (λ x. not (p x)) xs)
  IsPermutation-only p xs f only =
      subst (λ (l : List T). IsPermutation xs (l ++ filter (λ x. not (p x)) xs)) (sym only) (IsPermutation-filter_both p (λ x. not (p x)) (λ x. refl) xs)

  pub fewer : (p : T → Bool) (xs : List T) (f : T) → f ∷ [] ≡ filter p xs → length (filter (λ x. not (p x)) xs) < length xs
  fewer p xs f only = omega (arith, length_permutation _ _ (IsPermutation-only p xs f only))

  pub same_conflicts : (ranks : Ranks T) → AreLawful ranks → (x y : T) → agrees ranks x y ≡ true → (z : T) → do_conflict ranks x z ≡ do_conflict ranks y z
  same_conflicts [] laws x y same z = refl
  same_conflicts (agree ∷ ranks) laws x y same z =
      let both = and_parts (agree x y) (agrees ranks x y) same in
      λ t. laws.0.congr x y z both.0 t || same_conflicts ranks laws.1 x y both.1 z t
