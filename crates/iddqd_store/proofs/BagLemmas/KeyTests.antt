-- An item that has the keys conflicts with exactly the items that the keys find.
use Rattle.std.specs.Prelude.{◌≡◌, Contains, Bool, true, not, List, [], ◌∷◌, ◌++◌, filter}
use Rattle.std.specs.List.{AllByRecursion}
use Rattle.std.proofs.Common.{refl, ap, ◌∙◌}
use Rattle.std.proofs.lemmas.List.Elements.{filter_agree}
use Rattle.iddqd_store.specs.Bag.{Ranks, IsSound, NamesOne, listing, tests_of, conflicting, conflicts_of}
use Rattle.iddqd_store.specs.Rank.Keys.{AreKeyTests}
use Rattle.iddqd_store.proofs.BagLemmas.Sound.{Contains-filter, IsSound-rank, length-named, only_one}
use Rattle.iddqd_store.proofs.BagLemmas.Steps.{conflicts_of-empty}

module _ {T : Type 0} where
  -- an item that has the keys lists the same members as the keys
  pub conflicting-keys : (ranks : Ranks T) (tests : List (T → Bool)) (x : T) → AreKeyTests ranks tests → AllByRecursion (λ test. test x ≡ true) tests → (bag : List T) → conflicting ranks bag x ≡ listing tests bag
  conflicting-keys [] [] x keys passes bag = refl
  conflicting-keys [] (test ∷ tests) x keys passes bag = absurd keys
  conflicting-keys (agree ∷ ranks) [] x keys passes bag = absurd keys
  conflicting-keys (agree ∷ ranks) (test ∷ tests) x keys passes bag =
      let same : (y : T) → agree x y ≡ test y = λ y. keys.0 x y passes.0 in
      ap (λ l. l ++ listing (tests_of ranks x) (filter (λ y. not (agree x y)) bag)) (filter_agree (agree x) test same bag)
      ∙ ap (λ l. filter test bag ++ listing (tests_of ranks x) l) (filter_agree _ _ (λ y. ap not (same y)) bag)
      ∙ ap (λ l. filter test bag ++ l) (conflicting-keys ranks tests x keys.1 passes.1 (filter (λ y. not (test y)) bag))

  -- if the keys find nothing, nothing conflicts with it
  pub conflicts_of-keys : (ranks : Ranks T) (tests : List (T → Bool)) (x : T) → AreKeyTests ranks tests → AllByRecursion (λ test. test x ≡ true) tests
      → (bag : List T) → listing tests bag ≡ [] → conflicts_of ranks bag x ≡ []
  conflicts_of-keys ranks tests x keys passes bag none = conflicts_of-empty ranks bag x (conflicting-keys ranks tests x keys passes bag ∙ none)

  -- in a sound bag each key of a member finds it alone
  pub each_only : (ranks : Ranks T) (tests : List (T → Bool)) (bag : List T) (x : T) → AreKeyTests ranks tests
      → AllByRecursion (λ test. test x ≡ true) tests → IsSound ranks bag → Contains bag x → AllByRecursion (λ test. filter test bag ≡ x ∷ []) tests
  each_only [] [] bag x keys passes sound there = tt
  each_only [] (test ∷ tests) bag x keys passes sound there = absurd keys
  each_only (agree ∷ ranks) [] bag x keys passes sound there = absurd keys
  each_only (agree ∷ ranks) (test ∷ tests) bag x keys passes sound there =
      let apart = IsSound-rank agree ranks bag sound in
      let names : NamesOne agree test = λ y z has has_too. keys.0 y z has ∙ has_too in
      (only_one (filter test bag) x (length-named agree test names bag apart.0) (Contains-filter test bag x passes.0 there), each_only ranks tests bag x keys.1 passes.1 apart.1 there)
