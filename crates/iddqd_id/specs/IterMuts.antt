-- Made by tests/widths from crates/iddqd_bi/specs/IterMuts.antt: change that file.

-- What contracts say of an `IterMut`.
use Rattle.std.specs.Prelude.{◌≡◌, ◌+◌, ℕ, List, [], length, Option}
use Rattle.std.specs.Option.{option_map_or}
use Rattle.std.specs.Borrow.{LendsIf, Fml, RattleType, MutBor}
use Rattle.std.specs.HashMap.Lent.{HashMembers}
use Rattle.std.specs.declared.hash.Hasher as hasher
use Rattle.std.specs.declared.hash.BuildHasher as builder
use mir.Syntax.{named}
use Rattle.iddqd_store.specs.Map.{Map}
use Rattle.iddqd_id.specs.declared.item.IdHashItem as item
use Rattle.iddqd_store.specs.Map.Walk.{first_from, one_fewer, passed_items, to_come, Passes}
use Rattle.iddqd_store.specs.Map.Written.{map_with_if}
use Rattle.iddqd_id.specs.declared.iter_mut.IterMut.{IterMut}
use Rattle.iddqd_id.specs.contracts.iter_mut.IterMut.{the_row}

module _ {T S Key H : Type 0} where
  -- `rest_of` lists the items that are left to the iteration.
  -- Example: For a, b, c, of which a has been passed, it is b, c.
  abbrev pub rest_of : IterMut T S Key H → List T
  rest_of it = to_come it.map.now it.next

  -- `done_of` lists the items that the iteration has passed, as they were written.
  -- Example: For a, b, c, of which a has been passed, it is a.
  abbrev pub done_of : IterMut T S Key H → List T
  done_of it = passed_items it.map.now it.next

  -- `next_written` is the map, where `f` of the next item has replaced it.
  -- Example: For a, b, c, of which a has been passed, it has a, `f b`, c.
  abbrev pub next_written : IterMut T S Key H → (T → T) → Map T S
  next_written it f = map_with_if it.map.now (first_from it.map.now.slots it.next) f

  -- `after_next` is the place after the next item, from which the iteration goes on. At the end it stays.
  -- Example: For a, b, c in the first slots, of which a has been passed, it is 2.
  abbrev pub after_next : IterMut T S Key H → ℕ
  after_next it = option_map_or (λ at. at + 1) (first_from it.map.now.slots it.next) it.next

  -- `next_iteration` is the iteration after the next item, where `f` of that item has replaced it.
  -- Example: For a, b, c, of which a has been passed, it has passed a, `f b`.
  abbrev pub next_iteration : IterMut T S Key H → (T → T) → IterMut T S Key H
  next_iteration it f = record {
    map = record it.map { now = next_written it f };
    next = after_next it;
    left = one_fewer it.left;
  }

  -- The count that the iteration keeps is the number of items that are left.
  -- Example: For a, b, c, of which a has been passed, it is 2.
  abbrev pub IsCounted : IterMut T S Key H → Type 0
  IsCounted it = it.left ≡ length (rest_of it)

  -- There is a next item (`Passes`).
  -- Example: For a, b, c it holds until c has been passed.
  abbrev pub IsNextOf : IterMut T S Key H → Type 0
  IsNextOf it = (x : T) × Passes it.map.now it.next x (next_written it) (after_next it)

module _ (T S Key H : RattleType) (of : item.Ghosts T.Denot Key.Denot)
    (keys : HashMembers Key.Denot)
    (build : builder.Ghosts S.Denot H.Denot) (hashes : hasher.Ghosts H.Denot) where
  abbrev pub iter_row : RattleType
  iter_row = the_row (record { mir = named 1; lft = [] }) T S Key H of
      (record { eq = keys.eq }) (record { hash_input = keys.hash_input }) build hashes

  -- What is written through `r` is the data of the next item, and the iteration has passed it. If there is no `r`, the
  -- iteration stays.
  -- Example: For a, b, c, of which a has been passed, if d is written, it has passed a, `put b d`.
  abbrev pub lends_next : (D : RattleType) → (T.Denot → D.Denot → T.Denot)
      → MutBor (IterMut T.Denot S.Denot Key.Denot H.Denot) → Option (MutBor D.Denot) → Fml
  lends_next D put m r = LendsIf iter_row D m r (λ d. next_iteration m.now (λ x. put x d)) m.now
