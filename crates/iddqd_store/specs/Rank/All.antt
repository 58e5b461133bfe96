-- What holds at all ranks: lists that have one element for each rank.
use Rattle.std.specs.Prelude.{◌≡◌, ◌≤◌, ◌+◌, ℕ, List, [], ◌∷◌, length, Option, None, map, ⊤}
use Rattle.std.specs.List.{AllByRecursion, AllZip}
use Rattle.iddqd_store.specs.Bag.{Ranks, crowd, tests_of}
use Rattle.iddqd_store.specs.Map.{Map, ConflictsAt}
use Rattle.iddqd_store.specs.Rank.{Costs, IsHashed, IsVacantFor, SearchCosts, FoundByHash, walks_within}
use Rattle.iddqd_store.specs.Slots.Found.{AreFound, each_once}
use Rattle.iddqd_store.specs.declared.index_table.searched.Searched.{Searched}
use Rattle.iddqd_store.specs.declared.index_table.searched.Searched.TheVariants.{Found, Vacant}
use Rattle.iddqd_store.specs.Table.{Spot}
use Rattle.iddqd_store.specs.Table.Limit.{capacity_of}

module _ {T : Type 0} where
  -- For each rank, a pair with its hash goes into this cell of its table. Among public items, only the ghost field
  -- `vacant` of `VacantEntry` cites it.
  -- Example: For two ranks there are two hashes and two cells.
  abbrev pub AreVacantFor : List (T → ℕ) → List T → List ℕ → List Spot → Type 0
  AreVacantFor [] bag [] [] = ⊤
  AreVacantFor (hash ∷ hashes) bag (h ∷ hs) (at ∷ spots) = IsVacantFor hash bag h at × AreVacantFor hashes bag hs spots
  AreVacantFor hashes bag hs spots = ⊥

  -- `hashes_of` has for each rank the hash of the item's key. No clause of a map cites it.
  -- Example: For the hashes `λ x. x.0`, `λ x. x.1` and the item (1, 10) it is 1, 10.
  abbrev pub hashes_of : List (T → ℕ) → T → List ℕ
  hashes_of hashes x = map (λ hash. hash x) hashes

  -- For each rank, the pair of the item goes into this cell of its table. No clause of a map cites it.
  -- Example: For two ranks there are two cells.
  abbrev pub ArePlacesOf : List (T → ℕ) → List T → T → List Spot → Type 0
  ArePlacesOf hashes bag x spots = AreVacantFor hashes bag (hashes_of hashes x) spots

  -- For each rank, the item in the slot that was found has the hash of the search. No clause of a map cites it.
  abbrev pub AreHashed : List (T → ℕ) → List (Option T) → List FoundByHash → Type 0
  AreHashed hashes slots found = AllZip (λ hash at. IsHashed hash slots at) hashes found

  -- Searches by these hashes, one for each rank and one after another, cost what `SearchCosts` says of each, for these
  -- answers.
  -- Example: With 3 items and a hash of its own for each key, at two ranks, they ask at most twice, and probe at most 8
  -- cells.
  abbrev pub AreSearched : List (T → ℕ) → List T → ℕ → List ℕ → List (Option ℕ) → Costs → Costs → Type 0
  AreSearched [] bag room [] [] before after = after ≡ before
  AreSearched (hash ∷ hashes) bag room (h ∷ hs) (answer ∷ answers) before after =
      (between : Costs) × SearchCosts hash bag room h answer before.asked between.asked before.probed between.probed
      × AreSearched hashes bag room hs answers between after
  AreSearched hashes bag room hs answers before after = ⊥

  -- `crowds` counts for each rank how many items have this hash there, and adds up.
  -- Example: If every item has the hash 5 at both ranks, it is 6 for 5, 5 and 3 items.
  abbrev pub crowds : List (T → ℕ) → List T → List ℕ → ℕ
  crowds [] bag hs = 0
  crowds (hash ∷ hashes) bag [] = 0
  crowds (hash ∷ hashes) bag (h ∷ hs) = crowd hash bag h + crowds hashes bag hs

-- A call that searches at each rank (`AreSearched`) and then walks this often through each table asks about no more keys
-- than items have the hashes, and probes at most one cell more than there are items in each search and each walk
-- (`walks_within`). Growing is not counted.
-- Example: With 3 items, two ranks, one walk at each and a hash of its own for each key it asks at most twice, and probes
-- at most 16 cells.
pub record PlacingCosts {T : Type 0} (hashes : List (T → ℕ)) (bag : List T) (room : ℕ) (hs walks : List ℕ)
    (before after : Costs) : Type 0 where
  pub answers : List (Option ℕ)
  pub between : ℕ
  pub search : AreSearched hashes bag room hs answers before (record { asked = after.asked; probed = between })
  pub rest : after.probed ≤ between + walks_within (length bag) walks
  pub asked : after.asked ≤ before.asked + crowds hashes bag hs
  pub at_most : after.probed ≤ before.probed + walks_within (length bag) (map (λ _. 1) hashes) + walks_within (length bag) walks

-- A search for the item with all keys costs as much as one by the first key and, if that finds an item, compares at most
-- this many other keys.
-- Example: With 3 items, two ranks and a hash of its own for each key it asks at most twice, and probes at most 4 cells.
pub record UniqueCosts {T : Type 0} (hash_of : T → ℕ) (bag : List T) (room hash others : ℕ)
    (before after : Costs) : Type 0 where
  pub answer : Option ℕ
  pub between : ℕ
  pub search : SearchCosts hash_of bag room hash answer before.asked between before.probed after.probed
  pub rest : after.asked ≤ between + others

-- The searches were made by these hashes. No clause of a map cites it.
abbrev pub HaveHashes : List ℕ → List FoundByHash → Type 0
HaveHashes hs found = AllZip (λ h at. at.hash ≡ h) hs found

-- At each rank the table that has this cell holds this many pairs. No public clause cites it.
abbrev pub HaveRoom : ℕ → List Spot → Type 0
HaveRoom room spots = AllByRecursion (λ spot. room ≤ capacity_of spot.cells) spots

-- `slots_found` has for each rank the slot that a search found, or `None`. No public clause cites it.
abbrev pub slots_found : Searched (List FoundByHash) (List Spot) → List (Option ℕ)
slots_found (Found found) = map (λ at. at.slot) found
slots_found (Vacant spots) = map (λ _. None) spots

-- Something conflicts with `x`, and searches by the hashes of its keys, one at each rank, found these slots, which are
-- those of what does. No clause of a map cites it.
-- Example: If `x` has the first key of the item in the slot 2, and no item has its second key, they found `Some 2`, `None`.
pub record FindsConflicts {T S : Type 0} (ranks : Ranks T) (rank_hashes : List (T → ℕ)) (m : Map T S) (x : T)
    (searched : List FoundByHash) : Type 0 where
  pub conflict : ConflictsAt ranks m x (each_once (map (λ at. at.slot) searched))
  pub found : AreFound (tests_of ranks x) m.slots (map (λ at. at.slot) searched)
  pub hashes : HaveHashes (hashes_of rank_hashes x) searched
  pub hashed : AreHashed rank_hashes m.slots searched
