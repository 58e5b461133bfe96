-- Slots whose items may have changed, while their keys have not.
use Rattle.std.specs.Prelude.{◌≡◌, Bool, true, List, Option, Some, None, ⊤}
use Rattle.std.specs.List.{AllZip}

module _ {T : Type 0} (same : T → T → Bool) where
  -- Both slots are free, or their items are the same by the test.
  abbrev pub IsSlotKept : Option T → Option T → Type 0
  IsSlotKept None None = ⊤
  IsSlotKept None (Some y) = ⊥
  IsSlotKept (Some x) None = ⊥
  IsSlotKept (Some x) (Some y) = same x y ≡ true

  -- `IsSlotKept` holds slot by slot.
  abbrev pub KeepsKeys : List (Option T) → List (Option T) → Type 0
  KeepsKeys old new = AllZip IsSlotKept old new
