-- What becomes of many items that are inserted at once, all or none. In the examples an item is a pair of its first key and its
-- sort key.
use Rattle.std.specs.Prelude.{◌≡◌, Bool, List, ◌++◌, fold}
use Rattle.std.specs.declared.cmp.Ordering.{Ordering}
use Rattle.iddqd_store.specs.Bag.{Ranks, IsSound, tests_of}
use Rattle.iddqd_store.specs.Bag.Building.{AddsTo}
use Rattle.iddqd_store.specs.SlotMap.{AreAny}
use Rattle.iddqd_sorted.specs.Items.{with_item}

module _ {T : Type 0} where
  -- `with_items` lists the items after `with_item` for each item of the second list in turn.
  -- Example: For (2, 3) and the list (1, 5), (4, 3) it is (2, 3), (4, 3), (1, 5).
  abbrev pub with_items : (T → T → Ordering) → List T → List T → List T
  with_items by xs ys = fold (with_item by) xs ys

  -- Each item of the list `xs` was put at its place among the items `old`, where none conflicted with it, nor did an item before it
  -- in the list, and `new` lists the result.
  -- Example: (1, 5), (4, 3) added to (2, 3) make (2, 3), (4, 3), (1, 5). No list is (1, 5), (2, 7) added to (2, 3).
  pub record AddsInOrder (ranks : Ranks T) (by : T → T → Ordering) (old new xs : List T) : Type 0 where
    pub lists : new ≡ with_items by old xs
    pub all : AddsTo ranks old new xs

  -- The error says of each key of `x` whether an item before it in the list, or one of the items `old`, has that key. No two of
  -- those items conflict.
  -- Example: If (1, 5) came before (1, 7), and (2, 3) is an old item, the first key of (1, 7) is taken.
  pub record TellsWhyBehind (ranks : Ranks T) (old before : List T) (x : T) (flags : List Bool) : Type 0 where
    pub apart : IsSound ranks (before ++ old)
    pub taken : AreAny flags (tests_of ranks x) (before ++ old)
