-- How tables index slots.
use Rattle.std.specs.Prelude.{◌≡◌, ℕ, Bool, List, [], ◌∷◌, Option, Some, map, IsPermutation, false, ⊤}
use Rattle.std.specs.Option.{option_map_or}
use Rattle.iddqd_store.specs.Bag.{Ranks, IsSound}
use Rattle.iddqd_store.specs.Slots.{members, contents, get}

module _ {T : Type 0} where
  -- `pair_of` is the pair of a live slot: the hash of its item, and its number.
  -- Example: For the slot 2 with an item of the hash 5 it is (5, 2).
  abbrev pub pair_of : (T → ℕ) → ℕ × T → ℕ × ℕ
  pair_of hash m = (hash m.1, m.0)

  -- `passes_at` tells whether the slot has an item that passes the test.
  -- Example: For the slots `Some a`, `None` it is false at 1.
  abbrev pub passes_at : (T → Bool) → List (Option T) → ℕ → Bool
  passes_at test slots slot = option_map_or test (get slots slot) false

  -- The item of this slot has the hash `h`.
  -- Example: It holds for a free slot, which has no item, and any hash.
  abbrev pub HasHash : (T → ℕ) → List (Option T) → ℕ → ℕ → Type 0
  HasHash hash slots slot h = (x : T) → get slots slot ≡ Some x → hash x ≡ h

  -- The pair of the item in the slot has left, and no other.
  -- Example: For an item of the hash 5 in the slot 2 the new pairs with (5, 2) are the old pairs.
  abbrev pub LosesPairAt : (T → ℕ) → List (Option T) → List (ℕ × ℕ) → List (ℕ × ℕ) → ℕ → Type 0
  LosesPairAt hash slots old new slot = (x : T) → get slots slot ≡ Some x → IsPermutation old ((hash x, slot) ∷ new)

-- The pairs are those of the live slots.
-- Example: For the slots `Some a`, `None`, `Some b` with the hashes 5 and 6 they are (5, 0), (6, 2).
pub record IsIndex {T : Type 0} (hash : T → ℕ) (slots : List (Option T)) (pairs : List (ℕ × ℕ)) : Type 0 where
  pub paired : IsPermutation pairs (map (pair_of hash) (members slots))

module _ {T : Type 0} where
  -- For each rank there is a table that has the pairs of the live slots, by the hashes of this rank.
  -- Example: For two ranks there are two tables.
  abbrev pub AreIndexes : List (T → ℕ) → List (Option T) → List (List (ℕ × ℕ)) → Type 0
  AreIndexes [] slots [] = ⊤
  AreIndexes [] slots (pairs ∷ tables) = ⊥
  AreIndexes (hash ∷ hashes) slots [] = ⊥
  AreIndexes (hash ∷ hashes) slots (pairs ∷ tables) = IsIndex hash slots pairs × AreIndexes hashes slots tables

-- A map keeps its items so that no two of them conflict and a table for each rank has their pairs.
-- Example: A map of the bag has three pairs in each of two tables.
pub record IsIndexed {T : Type 0} (ranks : Ranks T) (hashes : List (T → ℕ))
    (slots : List (Option T)) (tables : List (List (ℕ × ℕ))) : Type 0 where
  pub sound : IsSound ranks (contents slots)
  pub indexes : AreIndexes hashes slots tables
