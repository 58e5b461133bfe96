-- One rank of keys: how it tells items apart, their hashes, what a search by it asks for, and what the search costs.
pub mod All
pub mod Asking
pub mod Index
pub mod Keys
pub mod Search
use Rattle.std.specs.Prelude.{◌≡◌, ℕ, ◌+◌, ◌*◌, ◌≤◌, ◌==◌, Bool, true, false, if◌then◌else◌, List}
use Rattle.std.specs.Prelude.{[], ◌∷◌, Option, None, Some, Contains, IfNone, IfSome, length, map}
use Rattle.std.specs.Hash.{HashWrites}
use Rattle.std.specs.List.{IsDistinct}
use Rattle.std.specs.Option.{option_map_or}
use Rattle.std.specs.declared.hash.Hasher as hasher
use Rattle.std.specs.declared.hash.BuildHasher as builder
use Rattle.iddqd_store.specs.Bag.{crowd}
use Rattle.iddqd_store.specs.Rank.Index.{HasHash, IsIndex}
use Rattle.iddqd_store.specs.Map.{hash_of}
use Rattle.iddqd_store.specs.Slots.Found.{NamesOneOf}
use Rattle.iddqd_store.specs.Slots.{contents}
use Rattle.iddqd_store.specs.Table.{IsFree, ProbesWithin, Spot}
use Rattle.iddqd_store.specs.Table.Limit.{capacity_of}

module _ {T K : Type 0} where
  -- `agree` tells whether the two items have equal keys of this rank.
  -- Example: For the first rank (1, 10) and (1, 20) agree.
  abbrev pub agree : (T → K) → (K → K → Bool) → T → T → Bool
  agree key eq x y = eq (key x) (key y)

module _ {T K S H : Type 0} where
  -- `key_hash` is the hash of an item's key of this rank.
  -- Example: With a builder that gives every key the same hash, it is that hash.
  abbrev pub key_hash : (T → K) → (K → HashWrites) → builder.Ghosts S H → hasher.Ghosts H → S → T → ℕ
  key_hash key input build hash s x = hash_of build hash s (input (key x))

-- The items of the bag that pass the test have equal keys by `agree`, and they have this hash.
-- Example: It holds for the test whether the first key is 2, and the hash of 2.
pub record NamesOneByHash {T : Type 0} (agree : T → T → Bool) (hash_of : T → ℕ) (hash : ℕ)
    (test : T → Bool) (bag : List T) : Type 0 where
  pub one : NamesOneOf agree test bag
  pub hashed : (x : T) → Contains bag x → test x ≡ true → hash_of x ≡ hash

-- Contracts see the costs of searches as two numbers, those of the compared keys and of the probed cells.
-- Example: Two keys and three cells.
pub record Costs : Type 0 where
  pub asked : ℕ
  pub probed : ℕ

-- The matcher was asked no more often than items have the hash, and the search probed the cells up to its answer, at
-- most one more than there are items.
-- Example: If each key has its own hash, a search asks at most once.
pub record SearchCosts {T A : Type 0} (hash_of : T → ℕ) (bag : List T) (room hash : ℕ) (answer : Option A)
    (asks asks_then before after : ℕ) : Type 0 where
  pub asked : asks_then ≤ asks + crowd hash_of bag hash
  pub probes : ProbesWithin (map hash_of bag) room hash answer before after
  pub at_most : after ≤ before + length bag + 1

-- A pair under this hash goes into this cell of a table that has the hashes of the items. The cell is one of as many
-- as the items need, so it is known if there are items. No clause of a map cites it.
-- Example: Where the items have the hashes 2, 2, it is the cell 4 of 8 for the hash 2.
pub record IsVacantFor {T : Type 0} (hash_of : T → ℕ) (bag : List T) (hash : ℕ) (spot : Spot) : Type 0 where
  pub same : spot.hash ≡ hash
  pub free : IsFree (map hash_of bag) spot
  pub fits : length bag ≤ capacity_of spot.cells

-- Contracts see the outcome of a search by a hash as the slot that it found, if any, and the hash.
-- Example: `Some 2` and the hash 5.
pub record FoundByHash : Type 0 where
  pub slot : Option ℕ
  pub hash : ℕ

module _ {T : Type 0} where
  -- The item in the slot that was found has the hash of the search. No public clause cites it.
  abbrev pub IsHashed : (T → ℕ) → List (Option T) → FoundByHash → Type 0
  IsHashed hash slots found = IfSome found.slot (λ slot. HasHash hash slots slot found.hash)

-- `walks_within` is a bound for the cells that some walks through the tables of a map of `n` items probe, where
-- `walks` says how many walks there are at each rank. A walk goes from the home bucket of a hash on, up to the first
-- empty cell at most, so it probes at most one cell more than there are pairs.
-- Example: For 3 items, one walk at the first rank and two at the second it is 12.
abbrev pub walks_within : ℕ → List ℕ → ℕ
walks_within n [] = 0
walks_within n (w ∷ ws) = w * (n + 1) + walks_within n ws

-- A removal by a key costs as much as a search that finds nothing (`SearchCosts`) and, if it removes an item, `walks`
-- through the tables of the other ranks (`walks_within`).
-- Example: With 3 items, two ranks and a hash of its own for each key it asks at most once, and probes at most 8 cells.
pub record KeyRemovalCosts {T A : Type 0} (hash_of : T → ℕ) (bag : List T) (room hash : ℕ) (walks : List ℕ)
    (answer : Option A) (asks asks_then before after : ℕ) : Type 0 where
  pub between : ℕ
  pub search : SearchCosts {A = ℕ} hash_of bag room hash None asks asks_then before between
  pub rest : after ≤ between + walks_within (length bag) walks
  pub absent : IfNone answer (after ≡ between)

-- `has_found` tells whether a search found this slot.
-- Example: If the search found the slot 2, it is true for 2 and false for 3.
abbrev pub has_found : FoundByHash → ℕ → Bool
has_found found slot = option_map_or (λ s. s == slot) found.slot false

-- `rehash_walks` counts the walks that put a pair with the hash `after` in the place of one with the hash `before`: none
-- if both hashes are equal, otherwise one that removes a pair and one that inserts it.
-- Example: For 5 and 6 it is 2.
abbrev pub rehash_walks : ℕ → ℕ → ℕ
rehash_walks before after = if before == after then 0 else 2

-- `merge_two_walks` counts the walks that put one pair in the place of two, of which the first has the hash `before` and
-- the second is that of this slot. If the search found that slot, one walk removes the first pair, and one ends at the
-- second, which gets another number. Otherwise one walk removes the second pair, and then the first is replaced
-- (`rehash_walks`).
-- Example: If the search found the second item, it is 2.
abbrev pub merge_two_walks : ℕ → FoundByHash → ℕ → ℕ
merge_two_walks before found slot = if has_found found slot then 2 else rehash_walks before found.hash + 1

-- `merge_three_walks` counts the walks that put one pair in the place of three, of which the second and the third are
-- those of these slots. One walk removes one of these two pairs, which the search did not find, and then two pairs
-- are replaced (`merge_two_walks`).
-- Example: If the search found the third item, it is 3.
abbrev pub merge_three_walks : ℕ → FoundByHash → ℕ → ℕ → ℕ
merge_three_walks before found second third = if has_found found third then 3 else merge_two_walks before found second + 1

-- A search by one rank requires that no two items have equal keys, and that the table has the pairs of their hashes. No
-- clause of a map cites it.
-- Example: In the slots `Some a`, `None`, `Some b` the table has the pairs of a with 0 and of b with 2.
pub record IsSearchable {T : Type 0} (agree : T → T → Bool) (hash : T → ℕ)
    (slots : List (Option T)) (pairs : List (ℕ × ℕ)) : Type 0 where
  pub apart : IsDistinct agree (contents slots)
  pub index : IsIndex hash slots pairs
