-- An item that replaces another, whatever their keys are.
use Rattle.std.specs.Prelude.{◌≡◌, ◌≢◌, ◌≤◌, ℕ, Bool, List, [], ◌∷◌, length, Some, None, Result, Err, IsPermutation}
use Rattle.iddqd_store.specs.Bag.{IsOnly, Ranks, conflicts_of}
use Rattle.iddqd_store.specs.Map.{Map, bag}
use Rattle.iddqd_store.specs.Rank.{Costs, SearchCosts}
use Rattle.iddqd_store.specs.Rank.All.{PlacingCosts}
use Rattle.iddqd_bi.specs.declared.error.NotReplaced.{NotReplaced}
use Rattle.iddqd_bi.specs.declared.error.NotReplaced.TheVariants as unreplaced

module _ {T : Type 0} where
  -- `refused_item` is the item that did not replace another.
  -- Example: For `Absent x` it is `x`.
  abbrev pub refused_item : NotReplaced T → T
  refused_item (unreplaced.Absent x) = x
  refused_item (unreplaced.Duplicate x) = x

  -- In the map `y` has replaced the item `x`: the new items and `x` are the old items and `y`. Nothing else changes.
  -- Example: A map of the bag in which (4, 10) is in the place of (1, 10) has (4, 10), (2, 20), (3, 30).
  pub record PutsInPlace {S : Type 0} (old : Map T S) (x y : T) (new : Map T S) : Type 0 where
    pub items : IsPermutation (x ∷ bag new) (y ∷ bag old)
    pub fits : length (bag new) ≤ new.capacity
    pub same_room : new.capacity ≡ old.capacity
    pub same_builder : new.builder ≡ old.builder

  -- `Absent` says that no item of the bag passes the test; `Duplicate` says that one does, and that something conflicts
  -- with `y` in the bag without that one.
  -- Example: In the bag, (1, 20) cannot replace the item with the first key 1, since (2, 20) conflicts with it.
  abbrev pub TellsWhyNot : Ranks T → (T → Bool) → List T → T → NotReplaced T → Type 0
  TellsWhyNot ranks test old y (unreplaced.Absent e) = IsOnly test old None
  TellsWhyNot ranks test old y (unreplaced.Duplicate e) =
      (x : T) × (rest : List T) × IsOnly test old (Some x) × IsPermutation old (x ∷ rest) × (conflicts_of ranks rest y ≢ [])

  -- A search by one rank, for an item that another one is to replace, costs what `SearchCosts` says. If it finds one, the
  -- call then searches at each rank for the keys of the new item, and walks this often through each table
  -- (`PlacingCosts`).
  -- Example: With 3 items, two ranks, two walks at each and a hash of its own for each key it asks at most three times,
  -- and probes at most 28 cells.
  abbrev pub RekeyingCosts : (T → ℕ) → List (T → ℕ) → List T → ℕ → ℕ → List ℕ → List ℕ → Result T (NotReplaced T)
      → Costs → Costs → Type 0
  RekeyingCosts hash_of hashes bag room hash hs walks (Err (unreplaced.Absent e)) before after =
      SearchCosts {A = ℕ} hash_of bag room hash None before.asked after.asked before.probed after.probed
  RekeyingCosts hash_of hashes bag room hash hs walks answer before after =
      PlacingCosts (hash_of ∷ hashes) bag room (hash ∷ hs) walks before after
