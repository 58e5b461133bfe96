-- What a contract sees of a hash map with an order. In the examples an item is a pair of its first key and its sort key.
use Rattle.std.specs.Prelude.{◌≡◌, ℕ, ◌+◌, ◌*◌, ◌<◌, ◌≤◌, Bool, max, true, ◌&&◌, List, [], Option, length, min, refl, Result, IsErr, OnOk, OnErr}
use Rattle.std.specs.Coded.{Coded, code_by, coded×, coded_ℕ, coded_list, coded_option}
use Rattle.std.specs.Ordering.{then_cmp, on, is_lt, is_le, is_gt, is_ge}
use Rattle.std.specs.declared.cmp.Ordering.{Ordering}
use Rattle.std.specs.declared.ops.Bound.{Bound}
use Rattle.std.specs.declared.ops.Bound.TheVariants.{Included, Excluded, Unbounded}
use Rattle.iddqd_store.specs.Bag.{Ranks, conflicts_of}
use Rattle.iddqd_store.specs.Slots.{contents}
use Rattle.iddqd_store.specs.Table.Limit.{most_room}
pub use Rattle.iddqd_order.specs.Lists.{Filters, with_item}
use Rattle.iddqd_order.specs.Row.{line}
use Rattle.iddqd_sorted.specs.Entries.{items_in}
use Rattle.iddqd_sorted.specs.declared.entry.Entry.{Entry}

-- Contracts see a map as its items by their slots, the blocks of the entries that list the slots in order, how many items fit,
-- and the builder of hashers. Public clauses cite the slots and the blocks only as `items`.
-- Example: The slots `Some (1, 5)`, `None`, `Some (2, 3)`, the one block of (3, 2), (5, 0), and the capacity 4.
pub record SortedValue (T K S : Type 0) : Type 0 where
  pub slots : List (Option T)
  pub blocks : List (List (Entry K))
  pub capacity : ℕ
  pub builder : S

abbrev pub entry_code : {K : Type 0} → Coded K → Coded (Entry K)
entry_code {K} k =
    code_by (K × ℕ) (coded× k coded_ℕ) (λ e. (e.sort_key, e.slot)) (λ p. record { sort_key = p.0; slot = p.1 }) (λ _. refl)

abbrev pub sorted_code : {T K S : Type 0} → Coded T → Coded K → Coded S → Coded (SortedValue T K S)
sorted_code {T} {K} {S} t k s =
    code_by (List (Option T) × (List (List (Entry K)) × (ℕ × S)))
    (coded× (coded_list (coded_option t)) (coded× (coded_list (coded_list (entry_code k))) (coded× coded_ℕ s)))
    (λ m. (m.slots, (m.blocks, (m.capacity, m.builder))))
    (λ p. record { slots = p.0; blocks = p.1.0; capacity = p.1.1.0; builder = p.1.1.1 }) (λ _. refl)

-- `items` lists the items of the map in ascending order of their sort keys, and those of one sort key in ascending order of
-- their first keys.
-- Example: For the slots `Some (1, 5)`, `None`, `Some (2, 3)` and the block of (3, 2), (5, 0) it is (2, 3), (1, 5).
abbrev pub items : {T K S : Type 0} → SortedValue T K S → List T
items m = items_in m.slots (line m.blocks)

-- `bag` lists the items of the map in no order. No public clause cites it.
-- Example: For the same slots it is (1, 5), (2, 3).
abbrev pub bag : {T K S : Type 0} → SortedValue T K S → List T
bag m = contents m.slots

-- `by_sort` compares items by their sort keys, and those of one sort key by their first keys.
-- Example: (2, 3) is lower than (1, 5), and (1, 3) is lower than (2, 3).
abbrev pub by_sort : {T K Key : Type 0} → (T → K) → (K → K → Ordering) → (T → Key) → (Key → Key → Ordering) → T → T → Ordering
by_sort sort cmp key cmp_key = then_cmp (on sort cmp) (on key cmp_key)

-- `most_grown` is the highest capacity of a map of so many items that has grown because it was full: room for as many more as were
-- `wanted`, but for no more than 65,536 or eight times as many as there are; or twice what it was, or 4.
-- Example: From the capacity 7, with 7 items, it is 14 for one more, 27 for 20 more, and 65543 for a million more.
abbrev pub most_grown : ℕ → ℕ → ℕ → ℕ
most_grown capacity count wanted = max (capacity + min wanted (max (8 * count) 65536)) (max (2 * capacity) 4)

module _ {T : Type 0} where
  module _ {K S : Type 0} where
    -- The map has the item besides those that it had, and they fit. The capacity grows only if the map was full, and then as it may
    -- for so many `wanted` (`most_grown`), which is 1 for an insert of one item. The builder stays.
    -- Example: A map of (2, 3) with the capacity 4 gains (1, 5), and has (2, 3), (1, 5) and the capacity 4 then.
    pub record Gains (by : T → T → Ordering) (wanted : ℕ) (old : SortedValue T K S) (x : T) (new : SortedValue T K S) : Type 0 where
      pub lists : items new ≡ with_item by (items old) x
      pub more : length (items new) ≡ length (items old) + 1
      pub no_less_room : old.capacity ≤ new.capacity
      pub same_room : length (items old) < old.capacity → new.capacity ≡ old.capacity
      pub most : new.capacity ≤ most_grown old.capacity (length (items old)) wanted
      pub fits : length (items new) ≤ new.capacity
      pub same_builder : new.builder ≡ old.builder

    -- No item has a key of `x`, and the map is full.
    -- Example: A map of (2, 3), (1, 5) with the capacity 2 is full for (4, 3), and not for (2, 4).
    pub record IsFullFor (ranks : Ranks T) (m : SortedValue T K S) (x : T) : Type 0 where
      pub free : conflicts_of ranks (items m) x ≡ []
      pub full : length (items m) ≡ m.capacity

module _ {T K : Type 0} (sort : T → K) (cmp : K → K → Ordering) where
  -- `is_from` tells whether the sort key of an item is not before a bound.
  -- Example: From `Included 5` on there are the sort keys 5, 6 .., and from `Excluded 5` on 6, 7 ...
  abbrev pub is_from : Bound K → T → Bool
  is_from (Included k) x = is_ge (cmp (sort x) k)
  is_from (Excluded k) x = is_gt (cmp (sort x) k)
  is_from Unbounded x = true

  -- `is_to` tells whether the sort key of an item is not behind a bound.
  -- Example: Up to `Included 5` there are the sort keys .. 4, 5, and up to `Excluded 5` .. 3, 4.
  abbrev pub is_to : Bound K → T → Bool
  is_to (Included k) x = is_le (cmp (sort x) k)
  is_to (Excluded k) x = is_lt (cmp (sort x) k)
  is_to Unbounded x = true

  -- `is_within` tells whether the sort key of an item is between two bounds.
  -- Example: Between `Included 3` and `Excluded 5` are 3 and 4.
  abbrev pub is_within : Bound K → Bound K → T → Bool
  is_within low high x = is_from low x && is_to high x

-- `most_extended` is the highest capacity of a map that was extended, if with what came there would be so many items at most: twice
-- what it was, or room for nine times as many items, or for 65,536 more.
-- Example: From the capacity 7, with 10 items, it is 65546, and with 10,000 items 90000.
abbrev pub most_extended : ℕ → ℕ → ℕ
most_extended capacity count = max (2 * capacity) (max (9 * count) (count + 65536))

-- After `Ok`, `more` items fit beside those that are there. The call fails only if they did not fit before it, and it always
-- fails if no map can hold them. The capacity grows only if they did not fit, and then to no more than is asked for, or twice
-- what it was, or 4. The builder stays.
-- Example: With 3 items and the capacity 7, 4 more fit and nothing changes, and for 5 more the capacity has to be 8 at least,
-- and 14 at most.
pub record MakesRoom {T K S A E : Type 0} (old : SortedValue T K S) (more : ℕ) (result : Result A E) (new : SortedValue T K S) : Type 0 where
  pub room : OnOk result (length (items old) + more ≤ new.capacity)
  pub reason : OnErr result (old.capacity < length (items old) + more)
  pub past : most_room < length (items old) + more → IsErr result
  pub no_less_room : old.capacity ≤ new.capacity
  pub same_room : length (items old) + more ≤ old.capacity → new.capacity ≡ old.capacity
  pub most : new.capacity ≤ max (length (items old) + more) (max (2 * old.capacity) 4)
  pub same_builder : new.builder ≡ old.builder

-- The capacity is no lower, and it stays if `fits` holds, which says that the items were certain to fit. The builder stays.
-- Example: If `fits` says that 3 + 4 ≤ 7, a map with the capacity 7 keeps it.
pub record GrowsUnless {T K S : Type 0} (fits : Type 0) (old new : SortedValue T K S) : Type 0 where
  pub no_less_room : old.capacity ≤ new.capacity
  pub same_room : fits → new.capacity ≡ old.capacity
  pub same_builder : new.builder ≡ old.builder
