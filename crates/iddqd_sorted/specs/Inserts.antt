-- What searches by the keys of an item find, and what the error of an insert says.
use Rattle.std.specs.Prelude.{◌≡◌, ◌≢◌, Bool, not, is_some, List, [], filter, map, ℕ}
use Rattle.std.specs.declared.cmp.Ordering.{Ordering}
use Rattle.iddqd_store.specs.Bag.{Ranks, agrees, conflicting, conflicts_of, tests_of}
use Rattle.iddqd_store.specs.Rank.{FoundByHash}
use Rattle.iddqd_store.specs.Rank.All.{AreHashed, HaveHashes, hashes_of}
use Rattle.iddqd_store.specs.SlotMap.{AreAny, NoneTrue}
use Rattle.iddqd_store.specs.Slots.Found.{StandAt, each_once}
use Rattle.iddqd_sorted.specs.Items.{SortedValue, bag, items, with_item, IsFullFor}

module _ {T K S : Type 0} where
  -- Searches by the keys of `x` found these slots. At least one key is taken: the slots are those of the items that conflict with
  -- `x`, and the hashes are those of the keys.
  -- Example: In a map of (2, 3) the search by the first key of (2, 7) finds the slot of (2, 3).
  pub record FindsTaken (ranks : Ranks T) (rank_hashes : List (T → ℕ)) (m : SortedValue T K S) (x : T) (found : List FoundByHash) : Type 0 where
    pub taken : AreAny (map (λ at. is_some at.slot) found) (tests_of ranks x) (items m)
    pub some : NoneTrue (map (λ at. is_some at.slot) found) → ⊥
    pub conflict : conflicts_of ranks (items m) x ≢ []
    pub stand : StandAt m.slots (each_once (map (λ at. at.slot) found)) (conflicting ranks (bag m) x)
    pub same_conflicts : conflicting ranks (bag m) x ≡ conflicting ranks (items m) x
    pub hashes : HaveHashes (hashes_of rank_hashes x) found
    pub hashed : AreHashed rank_hashes m.slots found

  -- The error says of each key of `x` whether an item of the map has it. If none is taken, the map is full.
  -- Example: In a map of (2, 3) the first key of (2, 7) is taken.
  pub record TellsWhy (ranks : Ranks T) (m : SortedValue T K S) (x : T) (flags : List Bool) : Type 0 where
    pub taken : AreAny flags (tests_of ranks x) (items m)
    pub full : NoneTrue flags → IsFullFor ranks m x

  -- The map has `x` in the place of the item that has each of its keys, at the place of its sort key. The capacity and the builder
  -- stay.
  -- Example: A map of (2, 3), (1, 5) replaces by (2, 7), and has (1, 5), (2, 7) then.
  pub record Replaces (ranks : Ranks T) (by : T → T → Ordering) (old : SortedValue T K S) (x : T) (new : SortedValue T K S) : Type 0 where
    pub lists : items new ≡ with_item by (filter (λ y. not (agrees ranks x y)) (items old)) x
    pub same_room : new.capacity ≡ old.capacity
    pub same_builder : new.builder ≡ old.builder
