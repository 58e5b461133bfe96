-- A map as a state, and how a state is extended by a list of items.
use Rattle.std.specs.Prelude.{◌+◌, ◌≤◌, ℕ, List, [], length, take, IsPermutation}
use Rattle.iddqd_store.specs.Bag.{Ranks, with_items}
use Rattle.iddqd_store.specs.Map.{Map, bag, most_extended}

-- `State` is the state of a map: its bag, and its capacity.
-- Example: (1, 10), (2, 20), (3, 30), and 7.
pub record State (T : Type 0) : Type 0 where
  pub items : List T
  pub capacity : ℕ

-- `state_of` is the state of the map.
-- Example: For a map of the bag with the capacity 7 it is the bag and 7.
abbrev pub state_of : {T S : Type 0} → Map T S → State T
state_of m = record { items = bag m; capacity = m.capacity }

-- `empty_state` is the state of a new map: it has no items, and the capacity 0.
-- Example: Extended by the list (4, 40), it has the bag (4, 40).
abbrev pub empty_state : {T : Type 0} → State T
empty_state = record { items = []; capacity = 0 }

module _ {T : Type 0} where
  -- The items of the list are inserted one by one with `with_item`, and after each of them the items fit the capacity.
  -- Example: With the list (4, 40), (4, 50) the bag needs the capacity 4.
  abbrev pub FitsOnTheWay : Ranks T → List T → List T → ℕ → Type 0
  FitsOnTheWay ranks bag xs capacity = (n : ℕ) → length (with_items ranks bag (take n xs)) ≤ capacity

  -- The items of the list were inserted one by one, each with `with_item`. The capacity is no lower, was enough at each step, and
  -- has a bound by how many items came, whatever was promised (`most_extended`).
  -- Example: With the list (1, 20), (3, 40) the bag becomes (3, 40), (1, 20).
  pub record ExtendsTo (ranks : Ranks T) (old : State T) (xs : List T) (new : State T) : Type 0 where
    pub items : IsPermutation new.items (with_items ranks old.items xs)
    pub fits_on_the_way : FitsOnTheWay ranks old.items xs new.capacity
    pub no_less_room : old.capacity ≤ new.capacity
    pub most : new.capacity ≤ most_extended old.capacity (length old.items + length xs)
