-- What a command on a map returns. Items that a reply lends are given as their values, and an iterator is given as its
-- list.
use Rattle.std.specs.Prelude.{ℕ, Bool, List, Option}
use Rattle.iddqd_store.specs.declared.error.InsertReason.{InsertReason}

-- `Reply` is what a command on a map returns. Borrowed items are given as values, and an iterator is given as its list.
-- Example: `done`, `found (Some (2, 20))`, or `duplicate` with (1, 20) and (1, 10), (2, 20).
pub data Reply (T D : Type 0) : Type 0 where
  done : Reply T D
  duplicate : T → List T → Reply T D
  displaced : List T → Reply T D
  found : Option T → Reply T D
  present : Bool → Reply T D
  taken : Option T → Reply T D
  memory : T → Reply T D
  refused : Reply T D
  size : ℕ → Reply T D
  items : List T → Reply T D
  kept : Reply T D
  -- The key of the item at this rank, counted from 0, is not the one asked for.
  key : ℕ → T → Reply T D
  absent : T → Reply T D
  absent_data : D → Reply T D
  -- The items of the list were removed again, and the item after them was rejected.
  extend_refused : InsertReason → List T → T → Reply T D
