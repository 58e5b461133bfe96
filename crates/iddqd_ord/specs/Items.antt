-- What a contract sees of a map in the order of its keys. In the examples an item is a number, which is its key.
use Rattle.std.specs.Prelude.{◌≡◌, ℕ, ◌+◌, ◌*◌, ◌<◌, ◌≤◌, max, Bool, true, false, ◌&&◌, List, length, Result, OnOk, OnErr}
use Rattle.std.specs.List.{list_any}
use Rattle.std.specs.Ordering.{is_lt, is_eq, is_gt, is_le, is_ge}
use Rattle.std.specs.declared.cmp.Ordering.{Ordering}
use Rattle.std.specs.declared.ops.Bound.{Bound}
use Rattle.std.specs.declared.ops.Bound.TheVariants.{Included, Excluded, Unbounded}
use Rattle.iddqd_order.specs.Lists.{with_item as item_among}
use Rattle.iddqd_order.specs.Row.{BlocksValue, line}
use Rattle.iddqd_ord.specs.declared.item.IdOrdItem as item

-- Contracts see a map as the blocks in which its items stand, and how many items fit. Public clauses cite the blocks only as
-- `items`.
-- Example: The one block 3, 5, and the capacity 4.
abbrev pub OrdMap : Type 0 → Type 0
OrdMap T = BlocksValue T

-- `items` lists the items of the map in ascending order of their keys.
-- Example: For the blocks [3], [5] it is 3, 5.
abbrev pub items : {T : Type 0} → OrdMap T → List T
items m = line m.blocks

module _ {T Key : Type 0} (of : item.Ghosts T Key) where
  -- `query_comparison` compares the key of an item with what a query seeks.
  -- Example: For the query 5 and the item 3 it is `Less`.
  abbrev pub query_comparison : {Q : Type 0} → (Q → Key → Ordering) → Q → T → Ordering
  query_comparison compare q x = compare q (of.key x)

  -- `has` tells whether an item has the key that a query seeks.
  -- Example: For the query 5 it is true of the item 5 alone.
  abbrev pub has : {Q : Type 0} → (Q → Key → Ordering) → Q → T → Bool
  has compare q x = is_eq (compare q (of.key x))

  module _ (cmp : Key → Key → Ordering) where
    -- `key_comparison` compares the key of an item with that of `x`.
    -- Example: For `x` 5 and the item 3 it is `Less`.
    abbrev pub key_comparison : T → T → Ordering
    key_comparison x y = cmp (of.key y) (of.key x)

    -- `has_key_of` tells whether an item has a key equal to that of `x`.
    -- Example: For `x` 5 it is true of the item 5 alone.
    abbrev pub has_key_of : T → T → Bool
    has_key_of x y = is_eq (cmp (of.key y) (of.key x))

    -- `with_item` lists the items with lower keys than `x`, then `x`, and then those with higher keys.
    -- Example: For 3, 5, 7 and 4 it is 3, 4, 5, 7. An item 5 takes the place of the one that has its key.
    abbrev pub with_item : List T → T → List T
    with_item xs x = item_among (λ y z. cmp (of.key y) (of.key z)) xs x

    -- The map has the item besides all that it had, and they fit. The capacity grows only if the map was full, and then to no more
    -- than twice what it was, or 4.
    -- Example: A map of 3, 5 with the capacity 4 gains 4, and has 3, 4, 5 and the capacity 4 then. It cannot gain another 5.
    pub record Gains (old : OrdMap T) (x : T) (new : OrdMap T) : Type 0 where
      pub lists : items new ≡ with_item (items old) x
      pub more : length (items new) ≡ length (items old) + 1
      pub no_less_room : old.capacity ≤ new.capacity
      pub same_room : length (items old) < old.capacity → new.capacity ≡ old.capacity
      pub most : new.capacity ≤ max (2 * old.capacity) 4
      pub fits : length (items new) ≤ new.capacity

    -- No item has the key of `x`, and the map is full.
    -- Example: A map of 3, 5 with the capacity 2 is full for 4, and not for 3.
    pub record IsFullFor (m : OrdMap T) (x : T) : Type 0 where
      pub free : list_any (has_key_of x) (items m) ≡ false
      pub full : length (items m) ≡ m.capacity

  -- `is_from` tells whether an item is not before a bound.
  -- Example: From `Included 5` on there are 5, 6 .., and from `Excluded 5` on 6, 7 ...
  abbrev pub is_from : {Q : Type 0} → (Q → Key → Ordering) → Bound Q → T → Bool
  is_from compare (Included q) x = is_ge (compare q (of.key x))
  is_from compare (Excluded q) x = is_gt (compare q (of.key x))
  is_from compare Unbounded x = true

  -- `is_to` tells whether an item is not behind a bound.
  -- Example: Up to `Included 5` there are .. 4, 5, and up to `Excluded 5` .. 3, 4.
  abbrev pub is_to : {Q : Type 0} → (Q → Key → Ordering) → Bound Q → T → Bool
  is_to compare (Included q) x = is_le (compare q (of.key x))
  is_to compare (Excluded q) x = is_lt (compare q (of.key x))
  is_to compare Unbounded x = true

  -- `is_within` tells whether an item is between two bounds.
  -- Example: Between `Included 3` and `Excluded 5` are 3 and 4.
  abbrev pub is_within : {Q : Type 0} → (Q → Key → Ordering) → Bound Q → Bound Q → T → Bool
  is_within compare low high x = is_from compare low x && is_to compare high x

-- After `Ok`, `more` items fit beside those that are there. The call fails only if they did not fit before it. The
-- capacity grows only if they did not fit, and then to no more than is asked for, or twice what it was, or 4.
-- Example: With 3 items and the capacity 7, 4 more fit and nothing changes, and for 5 more the capacity has to be 8 at
-- least, and 14 at most.
pub record MakesRoom {T A E : Type 0} (old : OrdMap T) (more : ℕ) (result : Result A E) (new : OrdMap T) : Type 0 where
  pub room : OnOk result (length (items old) + more ≤ new.capacity)
  pub reason : OnErr result (old.capacity < length (items old) + more)
  pub no_less_room : old.capacity ≤ new.capacity
  pub same_room : length (items old) + more ≤ old.capacity → new.capacity ≡ old.capacity
  pub most : new.capacity ≤ max (length (items old) + more) (max (2 * old.capacity) 4)

-- `most_extended` is the highest capacity of a map that was extended, if with what came there would be so many items at most: what it
-- was, or twice as many, or 4.
-- Example: From the capacity 7 it is 7 with 3 items, and 20 with 10.
abbrev pub most_extended : ℕ → ℕ → ℕ
most_extended capacity count = max capacity (max (2 * count) 4)

-- The capacity stays, or if `certain` does not hold, it may grow.
-- Example: `certain` may say that as many items fit as an iterator gives at most.
pub record GrowsUnless {T : Type 0} (certain : Type 0) (old new : OrdMap T) : Type 0 where
  pub no_less_room : old.capacity ≤ new.capacity
  pub same_room : certain → new.capacity ≡ old.capacity
