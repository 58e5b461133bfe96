-- An iteration over the slots by their numbers.
use Rattle.std.specs.Prelude.{◌≡◌, ◌≤◌, ℕ, ◌+◌, List, ◌∷◌, take, drop, Option, Some}
use Rattle.iddqd_store.specs.Slots.{contents, get}

-- Among the slots from `from` on, `slot` is the first with an item, which is `item`.
-- Example: In `Some a`, `None`, `Some b`, from 1 on it is 2 with b.
pub record ComesNext {T : Type 0} (slots : List (Option T)) (from slot : ℕ) (item : T) : Type 0 where
  pub ahead : from ≤ slot
  pub value : get slots slot ≡ Some item
  pub rest : contents (drop from slots) ≡ item ∷ contents (drop (slot + 1) slots)
  pub before : contents (take slot slots) ≡ contents (take from slots)
