-- What is built from the items that an iterator gives.
use Rattle.std.specs.Prelude.{◌≡◌, ◌≢◌, ◌+◌, ◌≤◌, ℕ, List, [], ◌∷◌, Option, Some, Ok, Err, IsPermutation}
use Rattle.std.specs.Iterator.{Count, Drains, YieldsThen, size}
use Rattle.iddqd_store.specs.Bag.{Ranks, add, adds}
use Rattle.iddqd_store.specs.declared.error.FromIterError.{FromIterError}
use Rattle.iddqd_store.specs.declared.error.FromIterError.TheVariants as from_iter
use Rattle.iddqd_store.specs.declared.error.InsertReason.{InsertReason}
use Rattle.iddqd_store.specs.declared.error.InsertReason.TheVariants.{Duplicate, Memory}

module _ {U S T : Type 0} (becomes : U → S → Type 0) (steps : S → Option T → S → Type 0) where
  -- The iterator gave a whole list, for which `P` holds.
  -- Example: For an iterator over 1, 2, 3 the list is 1, 2, 3.
  abbrev pub GivesAll : U → (List T → Type 0) → Type 0
  GivesAll iter P = (it : S) × (xs : List T) × becomes iter it × Drains steps it xs × P xs

  -- The iterator gave a list for which `P` holds, and then `x`.
  -- Example: For an iterator over 1, 2, 3, and 3 as `x`, the list is 1, 2.
  abbrev pub GivesThen : U → T → (List T → Type 0) → Type 0
  GivesThen iter x P =
      (it : S) × (xs : List T) × (rest : S) × becomes iter it × YieldsThen steps it xs (Some x) rest × P xs

-- Whatever state the iterator begins in, as many items as it may give fit beside those that are there.
-- Example: An iterator that may give at most 4 items fits beside 3 items if the capacity is 7.
abbrev pub FitsOn : {U S : Type 0} → (U → S → Type 0) → (S → Count) → U → ℕ → ℕ → Type 0
FitsOn becomes remaining iter held room = (it : _) → becomes iter it → held + size (remaining it) ≤ room

module _ {T : Type 0} (ranks : Ranks T) where
  -- Each item of the list was added to the bag `old`, where nothing conflicted with it, and `new` is the result.
  -- Example: With the list (4, 40), (5, 50) the bag gets these two more items.
  abbrev pub AddsTo : List T → List T → List T → Type 0
  AddsTo old new xs = (made : List T) × (adds ranks old xs ≡ Ok made) × IsPermutation new made

  -- Each item of the list was added to the empty bag, and then `x` was rejected because `duplicates` conflict with
  -- it.
  -- Example: After the list (1, 10), (2, 20) the item (1, 20) is rejected because of (1, 10), (2, 20).
  abbrev pub RefusesFor : T → List T → List T → Type 0
  RefusesFor x duplicates xs = (made : List T) × (adds ranks [] xs ≡ Ok made) × (add ranks made x ≡ Err (x, duplicates))

  -- Each item of the list was added to the empty bag, and then nothing conflicts with `x`.
  -- Example: After the list (1, 10), (2, 20) nothing conflicts with (3, 30).
  abbrev pub HasPlaceFor : T → List T → Type 0
  HasPlaceFor x xs = (made : List T) × (adds ranks [] xs ≡ Ok made) × (add ranks made x ≡ Ok (x ∷ made))

-- There is a conflicting item if the reason is `Duplicate`, and there is none if it is `Memory`.
-- Example: It holds for `Duplicate` and (1, 10), and for `Memory` and no item.
abbrev pub IsReason : {T : Type 0} → InsertReason → List T → Type 0
IsReason Duplicate found = found ≢ []
IsReason Memory found = found ≡ []

-- If the error is a conflict, then `P` holds for its item and the items that conflict with it, and if memory ran out,
-- then `Q` holds for its item.
-- Example: For `Duplicate` with (1, 20) and (1, 10), (2, 20) it says that `P` holds for these.
abbrev pub MatchFromIterError : {T L : Type 0} → FromIterError T L → (T → L → Type 0) → (T → Type 0) → Type 0
MatchFromIterError (from_iter.Duplicate d) P Q = P d.new_item d.duplicates
MatchFromIterError (from_iter.Memory x) P Q = Q x
