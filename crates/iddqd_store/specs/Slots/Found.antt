-- What searches ask for, and what they find.
use Rattle.std.specs.Prelude.{◌≡◌, ℕ, Bool, true, false, List, [], ◌∷◌, ◌++◌, Option, Some}
use Rattle.std.specs.Prelude.{None, filter_map, fold, if◌then◌else◌, nat_eq, All, ⊤}
use Rattle.std.specs.List.{Contains, IsDistinct, list_any, list_all}
use Rattle.std.specs.Option.{option_and_then, option_to_list, IfSome}
use Rattle.iddqd_store.specs.Bag.{Entry, IsOnly, entry_of}
use Rattle.iddqd_store.specs.Slots.{get, IsLive, contents}

module _ {T : Type 0} where
  -- The items of the bag that pass the test have equal keys by `agree`.
  -- Example: It holds for the test whether the first key is 2, and the first rank.
  abbrev pub NamesOneOf : (T → T → Bool) → (T → Bool) → List T → Type 0
  NamesOneOf agree test bag =
      (x y : T) → Contains bag x → Contains bag y → test x ≡ true → test y ≡ true → agree x y ≡ true

  -- `items_at` lists the items of these slots.
  -- Example: For `Some a`, `None`, `Some b` and the slots 2, 0 it is b, a.
  abbrev pub items_at : List (Option T) → List ℕ → List T
  items_at slots numbers = filter_map (get slots) numbers

  -- These slots have these items, in this order, and no slot is listed twice.
  -- Example: In `Some a`, `None`, `Some b` the slots 2, 0 have b, a.
  pub record StandAt (slots : List (Option T)) (numbers : List ℕ) (xs : List T) : Type 0 where
    pub items : items_at slots numbers ≡ xs
    pub live : All (IsLive slots) numbers
    pub apart : IsDistinct nat_eq numbers

-- `contains` tells whether the slot `slot` is among these.
-- Example: 2 is among 0, 2.
abbrev pub contains : List ℕ → ℕ → Bool
contains numbers slot = list_any (nat_eq slot) numbers

-- `with_found` lists the slots, and after them the one that a search found, unless it is among them.
-- Example: For 0, 2 and `Some 5` it is 0, 2, 5, and for 0, 2 and `Some 0` it is 0, 2.
abbrev pub with_found : List ℕ → Option ℕ → List ℕ
with_found numbers None = numbers
with_found numbers (Some slot) = if contains numbers slot then numbers else numbers ++ slot ∷ []

-- `each_once` lists the slots that searches found, each once.
-- Example: For `Some 2`, `None`, `Some 2` it is 2.
abbrev pub each_once : List (Option ℕ) → List ℕ
each_once found = fold with_found [] found

abbrev pub is_at : ℕ → Option ℕ → Bool
is_at slot None = false
is_at slot (Some other) = nat_eq slot other

-- `found_by_all` is the one slot that every search found, or `None` if there is none.
-- Example: For `Some 2`, `Some 2` it is `Some 2`, and for `Some 2`, `None` it is `None`.
abbrev pub found_by_all : List (Option ℕ) → Option ℕ
found_by_all [] = None
found_by_all (None ∷ found) = None
found_by_all (Some slot ∷ found) = if list_all (is_at slot) found then Some slot else None

module _ {T : Type 0} where
  -- A search by the test found this slot, or none if no item passes the test.
  -- Example: For the test whether an item is b, it is `Some 2` in `Some a`, `None`, `Some b`.
  pub record FoundAt (test : T → Bool) (slots : List (Option T)) (slot : Option ℕ) : Type 0 where
    pub only : IsOnly test (contents slots) (option_and_then (get slots) slot)
    pub live : IfSome slot (IsLive slots)

  -- For each rank, a search by the test found this slot, or none (`FoundAt`).
  -- Example: For the tests whether an item is b, and whether it is c, it is `Some 2`, `None` in `Some a`, `None`,
  -- `Some b`.
  abbrev pub AreFound : List (T → Bool) → List (Option T) → List (Option ℕ) → Type 0
  AreFound [] slots [] = ⊤
  AreFound [] slots (slot ∷ found) = ⊥
  AreFound (test ∷ tests) slots [] = ⊥
  AreFound (test ∷ tests) slots (slot ∷ found) = FoundAt test slots slot × AreFound tests slots found

  -- `held_at` lists the items of the slots that searches found, each once.
  -- Example: For `Some a`, `None`, `Some b` and `Some 2`, `Some 2` it is b.
  abbrev pub held_at : List (Option T) → List (Option ℕ) → List T
  held_at slots found = items_at slots (each_once found)

  -- `entry_at` is what searches by all keys found, as an `Entry`.
  -- Example: For `Some a`, `None`, `Some b` and `Some 2`, `Some 2` it is `unique b`.
  abbrev pub entry_at : List (Option T) → List (Option ℕ) → Entry T
  entry_at slots found =
      entry_of (held_at slots found) (option_to_list (option_and_then (get slots) (found_by_all found)))
