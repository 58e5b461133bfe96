-- What the flags of an error say, of a bag and of the list of its items.
use Rattle.std.proofs.Common.{◌≡◌, ◌∙◌, Bool, false, List, [], ◌∷◌, Option, map, sym}
use Rattle.std.specs.Prelude.{IsPermutation, is_some}
use Rattle.std.specs.List.{AllByRecursion, list_any}
use Rattle.std.proofs.lemmas.List.Sorted.{list_any-IsPermutation}
use Rattle.iddqd_store.specs.Bag.{Ranks, conflicts_of, tests_of}
use Rattle.iddqd_store.specs.Rank.{FoundByHash}
use Rattle.iddqd_store.specs.SlotMap.{AreAny, NoneTrue}
use Rattle.iddqd_store.specs.Slots.{contents}
use Rattle.iddqd_store.specs.Slots.Found.{AreFound}
use Rattle.iddqd_store.proofs.CallerLemmas.Asking.{none-conflicts_of}
use Rattle.iddqd_store.proofs.MapLemmas.Places.{is_some-at}

module _ {T : Type 0} where
  pub AreAny-permutation : (flags : List Bool) (tests : List (T → Bool)) (xs ys : List T) → IsPermutation xs ys → AreAny flags tests xs → AreAny flags tests ys
  AreAny-permutation [] [] xs ys same are = tt
  AreAny-permutation [] (test ∷ tests) xs ys same are = absurd are
  AreAny-permutation (b ∷ bs) [] xs ys same are = absurd are
  AreAny-permutation (b ∷ bs) (test ∷ tests) xs ys same are = (are.0 ∙ list_any-IsPermutation test xs ys same, AreAny-permutation bs tests xs ys same are.1)

  -- none is taken
  pub AreAny-none : {X : Type 0} (ranks : List X) (test : X → T → Bool) (xs : List T) → AllByRecursion (λ t. list_any t xs ≡ false) (map test ranks) → AreAny (map (λ (_ : X). false) ranks) (map test ranks) xs
  AreAny-none [] test xs untaken = tt
  AreAny-none (r ∷ ranks) test xs untaken = (sym untaken.0, AreAny-none ranks test xs untaken.1)

  -- the searches that found a slot are those by whose test some item passes
  pub AreAny-found : (tests : List (T → Bool)) (slots : List (Option T)) (found : List FoundByHash) → AreFound tests slots (map (λ at. at.slot) found)
      → AreAny (map (λ at. is_some at.slot) found) tests (contents slots)
  AreAny-found [] slots [] are = tt
  AreAny-found [] slots (at ∷ found) are = absurd are
  AreAny-found (test ∷ tests) slots [] are = absurd are
  AreAny-found (test ∷ tests) slots (at ∷ found) are = (is_some-at test slots at.slot are.0, AreAny-found tests slots found are.1)

  none_passes : (flags : List Bool) (tests : List (T → Bool)) (xs : List T) → AreAny flags tests xs → NoneTrue flags → AllByRecursion (λ t. list_any t xs ≡ false) tests
  none_passes [] [] xs are none = tt
  none_passes [] (test ∷ tests) xs are none = absurd are
  none_passes (b ∷ bs) [] xs are none = absurd are
  none_passes (b ∷ bs) (test ∷ tests) xs are none = (sym are.0 ∙ none.0, none_passes bs tests xs are.1 none.1)

  -- if no flag is true, nothing conflicts
  pub free-none : (ranks : Ranks T) (x : T) (flags : List Bool) (xs : List T) → AreAny flags (tests_of ranks x) xs → NoneTrue flags → conflicts_of ranks xs x ≡ []
  free-none ranks x flags xs are none = none-conflicts_of ranks xs x (none_passes flags (tests_of ranks x) xs are none)
