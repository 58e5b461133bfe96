-- What a contract sees of a map, with any number of ranks.
pub mod Extracting
pub mod State
pub mod Walk
pub mod Written
use Rattle.std.specs.Prelude.{◌≡◌, ◌≢◌, ◌+◌, ◌*◌, ◌≤◌, ◌<◌, ℕ, List, [], ◌∷◌, ◌++◌, Option, Some}
use Rattle.std.specs.Prelude.{Result, IsErr, OnOk, OnErr, length, max, min, fold, refl, IsPermutation}
use Rattle.std.specs.Coded.{Coded, code_by, coded×, coded_ℕ, coded_list, coded_option}
use Rattle.std.specs.Hash.{HashWrites}
use Rattle.std.specs.declared.hash.Hasher as hasher
use Rattle.std.specs.declared.hash.BuildHasher as builder
use Rattle.iddqd_store.specs.Bag.{IsSound, Ranks, conflicts_of, conflicting, with_item}
use Rattle.iddqd_store.specs.Slots.Found.{StandAt}
use Rattle.iddqd_store.specs.Slots.{contents, get}
use Rattle.iddqd_store.specs.Table.Limit.{most_room}

-- Contracts see a map as its items by their slots, its capacity, and its hash builder. Public clauses cite the slots
-- only as `bag`.
-- Example: The slots `Some (1, 10)`, `None`, `Some (2, 20)`, and the capacity 7.
pub record Map (T S : Type 0) : Type 0 where
  pub slots : List (Option T)
  pub capacity : ℕ
  pub builder : S

abbrev pub map_code : {T S : Type 0} → Coded T → Coded S → Coded (Map T S)
map_code {T} {S} t s =
    code_by (List (Option T) × (ℕ × S)) (coded× (coded_list (coded_option t)) (coded× coded_ℕ s))
    (λ m. (m.slots, (m.capacity, m.builder)))
    (λ p. record { slots = p.0; capacity = p.1.0; builder = p.1.1 }) (λ _. refl)

-- `bag` lists the items of the map. Their order means nothing.
-- Example: For the slots `Some (1, 10)`, `None`, `Some (2, 20)` it is (1, 10), (2, 20).
abbrev pub bag : {T S : Type 0} → Map T S → List T
bag m = contents m.slots

-- `hash_of` is the hash that `hash_one` of the builder gives for what a key writes.
-- Example: With a builder that gives every key the same hash, it is that hash.
abbrev pub hash_of : {S H : Type 0} → builder.Ghosts S H → hasher.Ghosts H → S → HashWrites → ℕ
hash_of b h s writes = h.finish (fold h.write (b.build_hasher s) writes)

-- `most_grown` is the highest capacity of a map of so many items that has grown because it was full: what it was, or 7, or twice as
-- many items as there are with as many more as were `wanted`, but with no more than 65,536 or eight times as many as there are.
-- Example: From the capacity 7, with 7 items, it is 16 for one more, 54 for 20 more, and 131086 for a million more.
abbrev pub most_grown : ℕ → ℕ → ℕ → ℕ
most_grown capacity count wanted = max capacity (max (2 * (count + min wanted (max (8 * count) 65536))) 7)

-- `most_extended` is the highest capacity of a map that was extended, if with what came there would be so many items at most: what
-- it was, or room for 18 times as many items, or for twice as many and 131,072 more.
-- Example: From the capacity 7, with 10 items, it is 131092, and with 10,000 items 180000.
abbrev pub most_extended : ℕ → ℕ → ℕ
most_extended capacity count = max capacity (2 * max (9 * count) (count + 65536))

-- The map has exactly this one item more, and the items fit. The capacity grows only if the map was full, and then as it may for so
-- many `wanted` (`most_grown`), which is 1 for an insert of one item: to twice as many items as there are then, or 7. Nothing else
-- changes.
-- Example: A map of the bag with the capacity 7 gains (4, 40), and its capacity stays 7.
pub record Gains {T S : Type 0} (wanted : ℕ) (old : Map T S) (item : T) (new : Map T S) : Type 0 where
  pub items : IsPermutation (bag new) (item ∷ bag old)
  pub no_less_room : old.capacity ≤ new.capacity
  pub same_room : length (bag old) < old.capacity → new.capacity ≡ old.capacity
  pub most : new.capacity ≤ most_grown old.capacity (length (bag old)) wanted
  pub fits : length (bag new) ≤ new.capacity
  pub same_builder : new.builder ≡ old.builder

-- Exactly the items of `gone` left the map, and nothing else changes.
-- Example: A map of the bag that loses (2, 20) has (1, 10), (3, 30) then.
pub record Loses {T S : Type 0} (old : Map T S) (gone : List T) (new : Map T S) : Type 0 where
  pub items : IsPermutation (bag old) (gone ++ bag new)
  pub same_room : new.capacity ≡ old.capacity
  pub same_builder : new.builder ≡ old.builder

-- The map has the items `xs`, of which `item` is in the slot `slot`. They are sound and fit, and the capacity and the
-- builder stay. No clause of a map cites it.
-- Example: Once (4, 40) is in the slot 3 of a map of the bag, it holds for that slot and (4, 40), (1, 10), (2, 20), (3, 30).
pub record PutsAt {T S : Type 0} (ranks : Ranks T) (old : Map T S) (slot : ℕ) (item : T) (xs : List T)
    (new : Map T S) : Type 0 where
  pub at : get new.slots slot ≡ Some item
  pub items : IsPermutation (bag new) xs
  pub sound : IsSound ranks (bag new)
  pub fits : length (bag new) ≤ new.capacity
  pub same_room : new.capacity ≡ old.capacity
  pub same_builder : new.builder ≡ old.builder

-- The item is in the map in the place of those that conflict with it (`with_item`), and the items fit. The capacity grows
-- only if the map was full and nothing conflicts with the item, and then as in `Gains`. Nothing else changes.
-- Example: A map of the bag, overwritten with (1, 20), has (1, 20), (3, 30).
pub record Overwrites {T S : Type 0} (ranks : Ranks T) (wanted : ℕ) (old : Map T S) (item : T)
    (new : Map T S) : Type 0 where
  pub items : IsPermutation (bag new) (with_item ranks (bag old) item)
  pub fits : length (bag new) ≤ new.capacity
  pub no_less_room : old.capacity ≤ new.capacity
  pub same_room : length (bag old) < old.capacity → new.capacity ≡ old.capacity
  pub most : new.capacity ≤ most_grown old.capacity (length (bag old)) wanted
  pub no_growth : conflicts_of ranks (bag old) item ≢ [] → new.capacity ≡ old.capacity
  pub same_builder : new.builder ≡ old.builder

-- The capacity is no lower, and it stays if `fits` holds, which says that the items were certain to fit. The builder
-- stays.
-- Example: If `fits` says that 3 + 4 ≤ 7, a map with the capacity 7 keeps it.
pub record GrowsUnless {T S : Type 0} (fits : Type 0) (old new : Map T S) : Type 0 where
  pub no_less_room : old.capacity ≤ new.capacity
  pub same_room : fits → new.capacity ≡ old.capacity
  pub same_builder : new.builder ≡ old.builder

-- After `Ok`, `more` items fit beside those that are there. The call fails only if they did not fit before it, and
-- it always fails if no map can hold them. The capacity grows only if they did not fit, and then to no more than twice as many
-- items as there would be, or 7. The builder stays.
-- Example: With 3 items and the capacity 7, 4 more fit and nothing changes, and for 5 more the capacity has to be 8 at
-- least.
pub record MakesRoom {T S A E : Type 0} (old : Map T S) (more : ℕ) (result : Result A E) (new : Map T S) : Type 0 where
  pub room : OnOk result (length (bag old) + more ≤ new.capacity)
  pub reason : OnErr result (old.capacity < length (bag old) + more)
  pub past : most_room < length (bag old) + more → IsErr result
  pub no_less_room : old.capacity ≤ new.capacity
  pub same_room : length (bag old) + more ≤ old.capacity → new.capacity ≡ old.capacity
  pub most : new.capacity ≤ max old.capacity (max (2 * (length (bag old) + more)) 7)
  pub same_builder : new.builder ≡ old.builder

-- The map makes room for `more` items, and no slot changes. After an error it is as it was. No clause of a map cites it.
-- Example: With 3 items and the capacity 7 it holds for 4 more items if nothing changed.
pub record Reserves {T S A E : Type 0} (old : Map T S) (more : ℕ) (result : Result A E) (new : Map T S) : Type 0 where
  pub slots : new.slots ≡ old.slots
  pub room : MakesRoom old more result new
  pub unchanged : OnErr result (new ≡ old)

-- `shrunk_to` is the capacity after a shrink: `least`, but not below the number of items that are `held`, and not above
-- the old capacity.
-- Example: For 3 items, the least 5 and the capacity 14 it is 5, for the least 0 it is 3, and for 20 it is 14.
abbrev pub shrunk_to : ℕ → ℕ → ℕ → ℕ
shrunk_to held least capacity = max held (min least capacity)

-- Nothing conflicts with `x`, and the map is full.
-- Example: With the capacity 3, a map of the bag is full for (4, 40), and not for (1, 40).
pub record IsFullFor {T S : Type 0} (ranks : Ranks T) (m : Map T S) (x : T) : Type 0 where
  pub free : conflicts_of ranks (bag m) x ≡ []
  pub full : length (bag m) ≡ m.capacity

-- The items that conflict with `x` are in these slots, in the order of the keys of `x`. No public clause cites it.
abbrev pub ListsConflicts : {T S : Type 0} → Ranks T → Map T S → T → List ℕ → Type 0
ListsConflicts ranks m x found = StandAt m.slots found (conflicting ranks (bag m) x)

-- Something conflicts with `x`, and these are the slots of what does. No public clause cites it.
pub record ConflictsAt {T S : Type 0} (ranks : Ranks T) (m : Map T S) (x : T) (at : List ℕ) : Type 0 where
  pub some : conflicts_of ranks (bag m) x ≢ []
  pub found : ListsConflicts ranks m x at
