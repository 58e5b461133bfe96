-- How an `ItemSet` lays out its slots. No public clause cites this module.
use Rattle.std.specs.Prelude.{◌≡◌, ℕ, zero, suc, ◌+◌, ◌<◌, ◌≤◌, List, map, filter, length}
use Rattle.std.specs.Prelude.{Option, Some, None, is_some, count_by, slice_get}
use Rattle.iddqd_store.specs.Slots.{get}
use Rattle.iddqd_store.specs.declared.item_set.Slot.{Slot}
use Rattle.iddqd_store.specs.declared.item_set.Slot.TheVariants.{Live, Free}

module _ {T : Type 0} where
  -- `item_of` is the item of the slot, if it has one.
  abbrev pub item_of : Slot T → Option T
  item_of (Live item) = Some item
  item_of (Free _) = None

  -- `live_slots` lists the slots that have an item.
  abbrev pub live_slots : List (Slot T) → List (Slot T)
  live_slots slots = filter (λ slot. is_some (item_of slot)) slots

  -- From this slot on, this many free slots each name the next one, and the last of them names the end of the
  -- slots.
  abbrev pub IsChain : List (Slot T) → ℕ → ℕ → Type 0
  IsChain slots zero slot = slot ≡ length slots
  IsChain slots (suc count) slot = (next : ℕ) × (slice_get slots slot ≡ Some (Free next)) × IsChain slots count next

  -- The number of items is `live`, and the chain from `next_free` goes through every free slot.
  pub record IsChained (slots : List (Slot T)) (live next_free : ℕ) : Type 0 where
    pub counted : live ≡ count_by is_some (map item_of slots)
    pub free : ℕ
    pub total : live + free ≡ length slots
    pub linked : IsChain slots free next_free

  -- No slot before this one has an item, and there are as many slots.
  pub record IsFreeBefore (slots : List (Slot T)) (lowest : ℕ) : Type 0 where
    pub within : lowest ≤ length slots
    pub free : (at : ℕ) → at < lowest → get (map item_of slots) at ≡ None

  -- Both slots are free and name the same next one, or the second has a clone of the item of the first.
  abbrev pub IsCloneOf : (T → T → Type 0) → Slot T → Slot T → Type 0
  IsCloneOf is_clone (Free next) copy = copy ≡ Free next
  IsCloneOf is_clone (Live item) copy = (other : T) × is_clone item other × (copy ≡ Live other)
