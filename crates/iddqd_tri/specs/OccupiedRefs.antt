-- Made by tests/widths from crates/iddqd_bi/specs/OccupiedRefs.antt: change that file.

-- What an `OccupiedEntryRef` shows.
use Rattle.std.specs.Prelude.{Bool, true, false, Option, Some, None, option_copied}
use Rattle.iddqd_tri.specs.declared.entry.occupied_ref.OccupiedEntryRef.{OccupiedEntryRef}
use Rattle.iddqd_tri.specs.declared.entry.occupied_ref.OccupiedEntryRef.TheVariants.{Unique, NonUnique}

module _ {T : Type 0} where
  -- `is_one` tells whether one item has all keys.
  -- Example: For `Unique a` it is true.
  abbrev pub is_one : OccupiedEntryRef T → Bool
  is_one (Unique x) = true
  is_one (NonUnique x1 x2 x3) = false

  -- `seen_unique` is the item that has all keys, if there is one.
  -- Example: For `Unique a` it is `Some a`.
  abbrev pub seen_unique : OccupiedEntryRef T → Option T
  seen_unique (Unique x) = Some x.now
  seen_unique (NonUnique x1 x2 x3) = None

  -- `seen_item1` is the item with the first key, if there is one.
  -- Example: For `Unique a` it is `Some a`.
  abbrev pub seen_item1 : OccupiedEntryRef T → Option T
  seen_item1 (Unique x) = Some x.now
  seen_item1 (NonUnique x1 x2 x3) = option_copied x1

  abbrev pub seen_item2 : OccupiedEntryRef T → Option T
  seen_item2 (Unique x) = Some x.now
  seen_item2 (NonUnique x1 x2 x3) = option_copied x2

  abbrev pub seen_item3 : OccupiedEntryRef T → Option T
  seen_item3 (Unique x) = Some x.now
  seen_item3 (NonUnique x1 x2 x3) = option_copied x3
