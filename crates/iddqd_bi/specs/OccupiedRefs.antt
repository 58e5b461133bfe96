-- What an `OccupiedEntryRef` shows.
use Rattle.std.specs.Prelude.{Bool, true, false, Option, Some, None, option_copied}
use Rattle.iddqd_bi.specs.declared.entry.occupied_ref.OccupiedEntryRef.{OccupiedEntryRef}
use Rattle.iddqd_bi.specs.declared.entry.occupied_ref.OccupiedEntryRef.TheVariants.{Unique, NonUnique}

module _ {T : Type 0} where
  -- `is_one` tells whether one item has both keys.
  -- Example: For `Unique a` it is true.
  abbrev pub is_one : OccupiedEntryRef T → Bool
  is_one (Unique x) = true
  is_one (NonUnique x1 x2) = false

  -- `seen_unique` is the item that has both keys, if there is one.
  -- Example: For `Unique a` it is `Some a`.
  abbrev pub seen_unique : OccupiedEntryRef T → Option T
  seen_unique (Unique x) = Some x.now
  seen_unique (NonUnique x1 x2) = None

  -- `seen_item1` is the item with the first key, if there is one.
  -- Example: For `Unique a` it is `Some a`.
  abbrev pub seen_item1 : OccupiedEntryRef T → Option T
  seen_item1 (Unique x) = Some x.now
  seen_item1 (NonUnique x1 x2) = option_copied x1

  abbrev pub seen_item2 : OccupiedEntryRef T → Option T
  seen_item2 (Unique x) = Some x.now
  seen_item2 (NonUnique x1 x2) = option_copied x2
