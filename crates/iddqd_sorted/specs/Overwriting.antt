-- What an insert does that takes the place of what conflicts with the item. In the examples an item is a pair of its first key and
-- its sort key.
use Rattle.std.specs.Prelude.{◌≡◌, ◌≢◌, ℕ, ◌+◌, ◌<◌, ◌≤◌, not, List, [], filter, fold, length}
use Rattle.std.specs.declared.cmp.Ordering.{Ordering}
use Rattle.iddqd_store.specs.Bag.{Ranks, conflicts_of, do_conflict}
use Rattle.iddqd_store.specs.Map.{Map}
use Rattle.iddqd_sorted.specs.Items.{SortedValue, items, most_extended, most_grown, with_item}

module _ {T : Type 0} where
  -- `overwritten` lists the items with `x` in the place of those that conflict with `x`, at the place of its sort key.
  -- Example: For (2, 3), (1, 5) and (2, 7) it is (1, 5), (2, 7).
  abbrev pub overwritten : Ranks T → (T → T → Ordering) → List T → T → List T
  overwritten ranks by xs x = with_item by (filter (λ y. not (do_conflict ranks x y)) xs) x

  module _ {K S : Type 0} where
    -- `map_of` is the map without its order. No public clause cites it.
    -- Example: Of a map of (2, 3), (1, 5) with the capacity 4 it is the slots of these items, and 4.
    abbrev pub map_of : SortedValue T K S → Map T S
    map_of m = record { slots = m.slots; capacity = m.capacity; builder = m.builder }

    -- The map has the item in the place of those that conflict with it, and the items fit. The capacity grows only if the map was
    -- full and nothing conflicts with the item, and then as it may for so many `wanted` (`most_grown`), which is 1 for an insert of
    -- one item. The builder stays.
    -- Example: A map of (2, 3), (1, 5), overwritten with (2, 7), has (1, 5), (2, 7) then.
    pub record Overwrites (ranks : Ranks T) (by : T → T → Ordering) (wanted : ℕ) (old : SortedValue T K S) (x : T) (new : SortedValue T K S) : Type 0 where
      pub lists : items new ≡ overwritten ranks by (items old) x
      pub fits : length (items new) ≤ new.capacity
      pub no_less_room : old.capacity ≤ new.capacity
      pub same_room : length (items old) < old.capacity → new.capacity ≡ old.capacity
      pub most : new.capacity ≤ most_grown old.capacity (length (items old)) wanted
      pub no_growth : conflicts_of ranks (items old) x ≢ [] → new.capacity ≡ old.capacity
      pub same_builder : new.builder ≡ old.builder

    -- Each item of the list was put into the map in the place of those that conflict with it, and the items fit. Whatever was promised,
    -- the capacity has a bound by how many items came.
    -- Example: A map of (2, 3), (1, 5), extended by (2, 7), (4, 1), has (4, 1), (1, 5), (2, 7) then.
    pub record ExtendsTo (ranks : Ranks T) (by : T → T → Ordering) (old : SortedValue T K S) (xs : List T) (new : SortedValue T K S) : Type 0 where
      pub lists : items new ≡ fold (overwritten ranks by) (items old) xs
      pub fits : length (items new) ≤ new.capacity
      pub most : new.capacity ≤ most_extended old.capacity (length (items old) + length xs)
