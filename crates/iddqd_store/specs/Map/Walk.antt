-- An iteration over a map's items, in which each may be written.
use Rattle.std.specs.Prelude.{◌≡◌, ℕ, zero, suc, ◌+◌, ◌-◌, ◌^◌, ◌%◌, List, [], ◌∷◌, ◌++◌, take, drop, Option, Some, None}
use Rattle.std.specs.Option.{option_map}
use Rattle.iddqd_store.specs.Map.{Map}
use Rattle.iddqd_store.specs.Slots.{contents}

module _ {T S : Type 0} where
  -- `passed_items` lists the items in the slots before this place.
  -- Example: For the slots `Some a`, `None`, `Some b` and the place 2 it is a.
  abbrev pub passed_items : Map T S → ℕ → List T
  passed_items m place = contents (take place m.slots)

  -- `to_come` lists the items in the slots from this place on.
  -- Example: For the slots `Some a`, `None`, `Some b` and the place 1 it is b.
  abbrev pub to_come : Map T S → ℕ → List T
  to_come m place = contents (drop place m.slots)

  -- The next item after the place `from` is `x`, and once written it is the last item before the place `to`. The items
  -- after it stay.
  -- Example: In the slots `Some a`, `None`, `Some b` an iteration passes b from the place 1 to the place 3.
  pub record Passes (m : Map T S) (from : ℕ) (x : T) (written : (T → T) → Map T S) (to : ℕ) : Type 0 where
    pub comes : to_come m from ≡ x ∷ to_come m to
    pub before : (f : T → T) → passed_items (written f) to ≡ passed_items m from ++ f x ∷ []
    pub behind : (f : T → T) → to_come (written f) to ≡ to_come m to

module _ {T : Type 0} where
  -- `first_from` is the first slot with an item, from the slot `from` on, or `None` if there is none.
  -- Example: For `Some a`, `None`, `Some b` and 1 it is `Some 2`, and for 3 it is `None`.
  abbrev pub first_from : List (Option T) → ℕ → Option ℕ
  first_from [] from = None
  first_from (None ∷ rest) zero = option_map suc (first_from rest zero)
  first_from (Some x ∷ rest) zero = Some 0
  first_from (o ∷ rest) (suc from) = option_map suc (first_from rest from)

-- `one_fewer` is the count less one, as a `usize` computes it: 0 wraps round to the largest number.
-- Example: For 3 it is 2.
abbrev pub one_fewer : ℕ → ℕ
one_fewer n = (n + (2 ^ 64 - 1)) % 2 ^ 64
