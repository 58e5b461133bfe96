-- What the trait of the hash maps says of each of them.
use Rattle.std.specs.Prelude.{◌≡◌, ℕ, Bool, false, List, [], ◌∷◌, Option, length}
use Rattle.std.specs.List.{AllByRecursion, AllZip, list_any}
use Rattle.iddqd_store.specs.Rank.{Costs}
use Rattle.iddqd_store.specs.Rank.All.{AreSearched, UniqueCosts, hashes_of}

-- No flag of the list is true.
-- Example: It holds of `false`, `false`, and not of `false`, `true`.
abbrev pub NoneTrue : List Bool → Type 0
NoneTrue flags = AllByRecursion (λ flag. flag ≡ false) flags

module _ {T : Type 0} where
  -- There is one flag for each test, which tells whether an item of the bag passes it.
  -- Example: For the tests for the keys 1 and 40 they are `true`, `false`.
  abbrev pub AreAny : List Bool → List (T → Bool) → List T → Type 0
  AreAny flags tests bag = AllZip (λ flag test. flag ≡ list_any test bag) flags tests

  -- One search for each key of `x`, one after another, costs what `AreSearched` says for what each found.
  -- Example: With 3 items, two ranks and a hash of its own for each key it asks at most twice, and probes at most 8 cells.
  pub record SearchesEach (hashes : List (T → ℕ)) (bag : List T) (room : ℕ) (x : T) (before after : Costs) : Type 0 where
    pub answers : List (Option ℕ)
    pub searched : AreSearched hashes bag room (hashes_of hashes x) answers before after

  -- One search by the first key of `x`, and at most one comparison for each other key (`UniqueCosts`).
  -- Example: With 3 items, two ranks and a hash of its own for each key it asks at most twice, and probes at most 4 cells.
  abbrev pub SearchesFirst : List (T → ℕ) → List T → ℕ → T → Costs → Costs → Type 0
  SearchesFirst [] bag room x before after = ⊥
  SearchesFirst (hash ∷ others) bag room x before after = UniqueCosts hash bag room (hash x) (length others) before after
