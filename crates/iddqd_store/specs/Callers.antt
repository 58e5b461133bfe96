-- Words for the contracts of callers of the maps.
use Rattle.std.specs.Prelude.{◌≡◌, ◌≢◌, ◌⊎◌, List, [], ◌∷◌, ◌++◌, length, IsPermutation}
use Rattle.iddqd_store.specs.Bag.{Entry, vacant, unique, non_unique, IsSound, Ranks, conflicts_of, swap}
use Rattle.iddqd_store.specs.Bag.Building.{IsReason}
use Rattle.iddqd_store.specs.Map.{Map, bag}
use Rattle.iddqd_store.specs.declared.error.InsertReason.{InsertReason}

-- First `a` and then `b` was added to the bag.
-- Example: With (4, 40) and (5, 50) the bag gets these two more items.
abbrev pub GainsBoth : {T : Type 0} → List T → T → T → List T → Type 0
GainsBoth {T} old a b new = (middle : List T) × IsPermutation middle (a ∷ old) × IsPermutation new (b ∷ middle)

-- An insert of `x` may fail, because something conflicts with `x` or because the map is full.
-- Example: With the capacity 7 the insert of (1, 40) into the bag may fail, and that of (4, 40) may not.
abbrev pub MayRefuse : {T S : Type 0} → Ranks T → Map T S → T → Type 0
MayRefuse ranks m x = (conflicts_of ranks (bag m) x ≢ []) ⊎ (length (bag m) ≡ m.capacity)

-- The batch has `x`; the items before `x` conflict neither with each other nor with those of `old`, and some item of
-- these or of `old` conflicts with `x` exactly if the reason is `Duplicate`.
-- Example: In the batch (4, 40), (1, 50) the item (1, 50) is rejected with the reason `Duplicate`.
abbrev pub IsRejected : {T : Type 0} → Ranks T → List T → List T → T → InsertReason → Type 0
IsRejected {T} ranks old batch x reason =
    (before : List T) × (behind : List T) × (batch ≡ before ++ x ∷ behind) × IsSound ranks (before ++ old)
    × IsReason reason (conflicts_of ranks (before ++ old) x)

module _ {T : Type 0} (ranks : Ranks T) (write : T → T) (old : List T) (x : T) where
  -- The item `x` was added to the bag, and then `write x` was put in its place.
  -- Example: If `write` sets the data to 7, (4, 40) is inserted and has the data 7 then.
  abbrev pub GainsWritten : List T → Type 0
  GainsWritten new =
      (middle : List T) × IsPermutation middle (x ∷ old) × IsPermutation new (swap ranks middle x (write x))

  -- If the entry is vacant, `x` was added and then written; if one item has all keys, that item was written; otherwise
  -- nothing changed.
  -- Example: For `non_unique` nothing changes.
  abbrev pub WritesEntry : Entry T → List T → Type 0
  WritesEntry vacant new = GainsWritten new
  WritesEntry (unique y) new = IsPermutation new (swap ranks old y (write y))
  WritesEntry (non_unique ys) new = IsPermutation new old

  -- If the entry is vacant, `x` was added; if one item has all keys, that item was written; otherwise nothing changed.
  -- Example: For `vacant` and (4, 40) the bag gets (4, 40).
  abbrev pub InsertsOrWrites : Entry T → List T → Type 0
  InsertsOrWrites vacant new = IsPermutation new (x ∷ old)
  InsertsOrWrites (unique y) new = IsPermutation new (swap ranks old y (write y))
  InsertsOrWrites (non_unique ys) new = IsPermutation new old
