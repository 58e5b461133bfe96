-- What is left of two listings of one sound bag that begin with the same items.
use Rattle.std.specs.Prelude.{◌<◌, Bool, List, [], ◌∷◌, ◌++◌, length, IsPermutation}
use Rattle.std.specs.List.{IsDistinct}
use Rattle.std.specs.Cmp.{IsEquivalence}
use Rattle.std.proofs.Common.{sym, ◌∙◌, arith}
use Rattle.std.proofs.lemmas.List.Sorted.{IsPermutation-refl, IsPermutation-sym, IsPermutation-trans}
use Rattle.std.proofs.lemmas.Map.Keys.{IsDistinct-IsPermutation, IsDistinct-tail}
use Rattle.iddqd_store.specs.Bag.{Ranks, AreLawful, IsSound, NamesOne}
use Rattle.iddqd_store.proofs.BagLemmas.Sound.{without_named, IsSound-rank}

module _ {T : Type 0} (agree : T → T → Bool) (laws : IsEquivalence agree) where
  names_own : (x : T) → NamesOne agree (agree x)
  names_own x y z p q = sym (laws.congr x y z p) ∙ q

  one_cancelled : (x : T) (a b : List T) → IsDistinct agree (x ∷ a) → IsPermutation (x ∷ a) (x ∷ b) → IsPermutation a b
  one_cancelled x a b apart same =
      let first = without_named agree (agree x) (names_own x) (x ∷ a) a x apart (laws.refl x) (IsPermutation-refl (x ∷ a)) in
      let second = without_named agree (agree x) (names_own x) (x ∷ a) b x (IsDistinct-IsPermutation agree laws.symm _ _ same apart) (laws.refl x) same in
      IsPermutation-trans _ _ _ (IsPermutation-sym _ _ first) second

  cancelled : (xs a b : List T) → IsDistinct agree (xs ++ a) → IsPermutation (xs ++ a) (xs ++ b) → IsPermutation a b
  cancelled [] a b apart same = same
  cancelled (x ∷ xs) a b apart same = cancelled xs a b (IsDistinct-tail agree x (xs ++ a) apart) (one_cancelled x (xs ++ a) (xs ++ b) apart same)

module _ {T : Type 0} where
  pub IsPermutation-cancelled : (ranks : Ranks T) → 0 < length ranks → AreLawful ranks → (bag xs a b : List T) → IsSound ranks (xs ++ a)
      → IsPermutation bag (xs ++ a) → IsPermutation bag (xs ++ b) → IsPermutation b a
  IsPermutation-cancelled [] some laws bag xs a b sound first second = absurd (omega arith)
  IsPermutation-cancelled (agree ∷ ranks) some laws bag xs a b sound first second =
      IsPermutation-sym _ _
      (cancelled agree laws.0 xs a b (IsSound-rank agree ranks (xs ++ a) sound).0
      (IsPermutation-trans _ _ _ (IsPermutation-sym _ _ first) second))
