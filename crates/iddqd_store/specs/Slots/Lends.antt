-- What an `ItemSet` ends as, if a `&mut` to one of its items is returned.
use Rattle.std.specs.Prelude.{ℕ, Option, Some, slice_set}
use Rattle.std.specs.Borrow.{Lends, LendsIf, Fml, RattleType, MutBor}
use Rattle.iddqd_store.specs.Slots.{Slots}
use Rattle.iddqd_store.specs.contracts.item_set.ItemSet.{the_row}

-- `with_item` is the set, with this item in this slot.
-- Example: For `Some a`, `Some b`, the slot 1 and the item c it has the slots `Some a`, `Some c`.
abbrev pub with_item : {T : Type 0} → Slots T → ℕ → T → Slots T
with_item s slot item = record s { slots = slice_set s.slots slot (Some item) }

module _ (T : RattleType) (s : MutBor (Slots T.Denot)) (slot : ℕ) where
  -- What is written through `r` is the item of this slot.
  -- Example: If c is written, `Some a`, `Some b` and 1 end as `Some a`, `Some c`.
  abbrev pub lends_item : MutBor T.Denot → Fml
  lends_item r = Lends (the_row T) T s r (with_item s.now slot)

  -- What is written through `r` is the item of this slot, and if there is no `r`, the set ends as it was.
  -- Example: If c is written, `Some a`, `Some b` and 1 end as `Some a`, `Some c`.
  abbrev pub lends_get : Option (MutBor T.Denot) → Fml
  lends_get r = LendsIf (the_row T) T s r (with_item s.now slot) s.now
