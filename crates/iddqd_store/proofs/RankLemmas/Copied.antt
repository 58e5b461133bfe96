-- A table that indexes the slots also indexes a copy of them.
use Rattle.std.specs.Prelude.{◌≡◌, ℕ, ◌+◌, List, [], ◌∷◌, map, Option, Some, None, Contains, IsPermutation}
use Rattle.std.specs.List.{AllZip}
use Rattle.std.proofs.Common.{refl, sym, subst}
use Rattle.std.proofs.lemmas.List.Sorted.{IsPermutation-refl}
use Rattle.iddqd_store.specs.Bag.{IsCopy}
use Rattle.iddqd_store.specs.Rank.Index.{IsIndex, pair_of}
use Rattle.iddqd_store.specs.Slots.{IsSlotClone, members_from, contents}
use Rattle.iddqd_store.proofs.RankLemmas.Index.{Contains-cons, Contains-here}

module _ {T : Type 0} (is_clone : T → T → Type 0) where
  pub is_copy : (bag copy : List T) → AllZip is_clone bag copy → IsCopy is_clone bag copy
  is_copy bag copy all = (copy, IsPermutation-refl copy, all)

  module _ (hash other : T → ℕ) where
    same_pairs : (at : ℕ) (slots copy : List (Option T)) → ((x c : T) → Contains (contents slots) x → is_clone x c → other c ≡ hash x)
        → AllZip (IsSlotClone is_clone) slots copy → map (pair_of other) (members_from at copy) ≡ map (pair_of hash) (members_from at slots)
    same_pairs at [] [] alike all = refl
    same_pairs at [] (c ∷ copy) alike all = absurd all
    same_pairs at (s ∷ slots) [] alike all = absurd all
    same_pairs at (None ∷ slots) (None ∷ copy) alike all = same_pairs (at + 1) slots copy alike all.1
    same_pairs at (None ∷ slots) (Some c ∷ copy) alike all = absurd (cc all.0)
    same_pairs at (Some x ∷ slots) (None ∷ copy) alike all = absurd all.0
    same_pairs at (Some x ∷ slots) (Some c ∷ copy) alike all =
        rw (alike x c (Contains-here x (contents slots)) all.0, same_pairs (at + 1) slots copy (λ y d found is. alike y d (Contains-cons x y (contents slots) found) is) all.1) refl

    pub IsIndex-copy : (slots copy : List (Option T)) (pairs : List (ℕ × ℕ))
        → ((x c : T) → Contains (contents slots) x → is_clone x c → other c ≡ hash x) → AllZip (IsSlotClone is_clone) slots copy
        → IsIndex hash slots pairs → IsIndex other copy pairs
    IsIndex-copy slots copy pairs alike all indexed =
        record { paired = subst (λ l. IsPermutation pairs l) (sym (same_pairs 0 slots copy (λ x c found is. alike x c found is) all)) indexed.paired }
