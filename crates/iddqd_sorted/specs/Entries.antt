-- The entries of an order, and the items that they stand for. In the examples an item is a pair of its first key and its sort
-- key, and an entry is a pair of a sort key and the number of a slot. No public clause cites what is here.
use Rattle.std.specs.Prelude.{◌≡◌, List, Option, Some, All, length, filter_map}
use Rattle.std.specs.declared.cmp.Ordering.{Ordering}
use Rattle.iddqd_store.specs.Slots.{get, IsLive, live_count}
use Rattle.iddqd_sorted.specs.Ordered.{IsAscending}
use Rattle.iddqd_sorted.specs.declared.entry.Entry.{Entry}

module _ {T K : Type 0} where
  -- `item_in` is the item in the slot of an entry.
  -- Example: For the slots `Some (1, 5)`, `None`, `Some (2, 3)` and the entry (3, 2) it is `Some (2, 3)`.
  abbrev pub item_in : List (Option T) → Entry K → Option T
  item_in slots e = get slots e.slot

  -- `items_in` lists the items of the entries.
  -- Example: For the same slots and the entries (3, 2), (5, 0) it is (2, 3), (1, 5).
  abbrev pub items_in : List (Option T) → List (Entry K) → List T
  items_in slots entries = filter_map (item_in slots) entries

  -- The entries are those of the slots that have an item, each with a sort key that compares as that of its item, and the items
  -- ascend.
  -- Example: It holds of the same slots and the entries (3, 2), (5, 0).
  pub record IsListed (by : T → T → Ordering) (sort : T → K) (cmp : K → K → Ordering) (slots : List (Option T)) (entries : List (Entry K)) : Type 0 where
    pub live : All (λ e. IsLive slots e.slot) entries
    pub keyed : All (λ e. (x : T) → item_in slots e ≡ Some x → (k : K) → cmp (sort x) k ≡ cmp e.sort_key k) entries
    pub counted : live_count slots ≡ length entries
    pub ascending : IsAscending by (items_in slots entries)
