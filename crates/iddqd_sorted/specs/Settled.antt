-- Entries that come to their places in the order. In the examples an item is a pair of its first key and its sort key, and an
-- entry is a pair of a sort key and the number of a slot. No public clause cites what is here.
use Rattle.std.specs.Prelude.{◌≡◌, ℕ, ◌<◌, List, Option, Some, None, length, slice_index_or, slice_set}
use Rattle.std.specs.List.{remove}
use Rattle.std.specs.declared.cmp.Ordering.TheVariants.{Equal}
use Rattle.std.specs.declared.cmp.Ordering.{Ordering}
use Rattle.iddqd_store.specs.Slots.{get, contents, Updates}
use Rattle.iddqd_sorted.specs.declared.entry.Entry.{Entry}
use Rattle.iddqd_sorted.specs.Entries.{IsListed, items_in}
use Rattle.iddqd_sorted.specs.Items.{by_sort, with_item}

module _ {T K : Type 0} where
  -- The entries are those of the slots that have an item, but for this slot.
  -- Example: For the slots `Some (1, 5)`, `None`, `Some (2, 3)` and the slot 0 the one entry is (3, 2).
  abbrev pub ListsOthers : (T → T → Ordering) → (T → K) → (K → K → Ordering) → List (Option T) → ℕ → List (Entry K) → Type 0
  ListsOthers by sort cmp slots slot others = IsListed by sort cmp (slice_set slots slot None) others

  -- `entries` are those of all slots that have an item, and the item of this slot is among the `others` at the place where it
  -- belongs.
  -- Example: For the same slots, the slot 0 and the other entry (3, 2) the entries are (3, 2), (5, 0).
  pub record Settles (by : T → T → Ordering) (sort : T → K) (cmp : K → K → Ordering) (slots : List (Option T)) (slot : ℕ) (others entries : List (Entry K)) : Type 0 where
    pub listed : IsListed by sort cmp slots entries
    pub items : (x : T) → get slots slot ≡ Some x → items_in slots entries ≡ with_item by (items_in (slice_set slots slot None) others) x

  -- The entry of this slot left the place where it stood, and the slot's item settled among the others.
  -- Example: For the slots `Some (1, 2)`, `None`, `Some (2, 3)`, the slot 0 and the entries (3, 2), (5, 0) before they are
  -- (2, 0), (3, 2).
  pub record Resettles (by : T → T → Ordering) (sort : T → K) (cmp : K → K → Ordering) (slots : List (Option T)) (slot : ℕ) (old new : List (Entry K)) : Type 0 where
    pub place : ℕ
    pub within : place < length old
    pub at_slot : (d : Entry K) → (slice_index_or old place d).slot ≡ slot
    pub settles : Settles by sort cmp slots slot (remove old place) new

  -- The entries list what the slots had before the item of this slot changed. Its sort key was `before`, and its first key
  -- compares as it did.
  -- Example: For the slots `Some (1, 2)`, `None`, `Some (2, 3)`, the slot 0 and the sort key 5 the entries are (3, 2), (5, 0).
  pub record ListsBefore {Key : Type 0} (sort : T → K) (cmp : K → K → Ordering) (key : T → Key) (cmp_key : Key → Key → Ordering)
      (slots : List (Option T)) (slot : ℕ) (before : K) (entries : List (Entry K)) : Type 0 where
    pub old : List (Option T)
    pub item : T
    pub now : T
    pub listed : IsListed (by_sort sort cmp key cmp_key) sort cmp old entries
    pub had : get old slot ≡ Some item
    pub updates : Updates old slots slot (Some now)
    pub many : length (contents slots) ≡ length (contents old)
    pub keyed : before ≡ sort item
    pub level : cmp_key (key item) (key now) ≡ Equal
