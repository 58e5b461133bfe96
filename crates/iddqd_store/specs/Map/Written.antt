-- A map in which an item was written.
use Rattle.std.specs.Prelude.{◌≡◌, ℕ, zero, suc, Bool, true, false, is_some, List, [], ◌∷◌, Option, Some, None, if◌then◌else◌, map, slice_set, refl, IsPermutation, MatchOption}
use Rattle.std.specs.Borrow.{MutBor}
use Rattle.iddqd_store.specs.Bag.{IsOnly, Ranks, swap}
use Rattle.iddqd_store.specs.Map.{Map, bag}
use Rattle.iddqd_store.specs.Slots.{get}

module _ {T : Type 0} where
  -- `of_item` is the result of `f` at the item, if there is one.
  -- Example: For `Some a` it is `Some (f a)`, and for `None` it is `None`.
  abbrev pub of_item : (T → T) → Option T → Option T
  of_item f None = None
  of_item f (Some x) = Some (f x)

  -- `map_with` is the map, where the item of this slot is replaced by `f` of it.
  -- Example: For the slots `Some a`, `Some b` and 1 it has the slots `Some a`, `Some (f b)`.
  abbrev pub map_with : {S : Type 0} → Map T S → ℕ → (T → T) → Map T S
  map_with m slot f = record m { slots = slice_set m.slots slot (of_item f (get m.slots slot)) }

  -- `map_with_if` is the map, where the item of this slot, if there is such a slot, is replaced by `f` of it.
  -- Example: For `None` it is the map itself.
  abbrev pub map_with_if : {S : Type 0} → Map T S → Option ℕ → (T → T) → Map T S
  map_with_if m None f = m
  map_with_if m (Some slot) f = map_with m slot f

  -- `slots_where` is the slots with `f x` in the place of each item x that passes the test.
  -- Example: For the test whether an item is b, the slots `Some a`, `None`, `Some b` become `Some a`, `None`, `Some (f b)`.
  unfoldable pub slots_where : (T → Bool) → (T → T) → List (Option T) → List (Option T)
  slots_where test f slots = map (of_item (λ x. if test x then f x else x)) slots

  -- `map_where` is the map with `f x` in the place of each item x that passes the test.
  -- Example: For the test whether the first key is 2, a map of the bag becomes one of (1, 10), f (2, 20) and (3, 30).
  abbrev pub map_where : {S : Type 0} → (T → Bool) → (T → T) → Map T S → Map T S
  map_where test f m = record m { slots = slots_where test f m.slots }

module _ {T D S : Type 0} (put : T → D → T) (test : T → Bool) (m : Map T S) where
  -- `put_where` is the map with the data `d` in each item that passes the test.
  -- Example: For the test whether the first key is 2, a map of the bag becomes one of (1, 10), (2, 20) with the data
  -- `d`, and (3, 30).
  abbrev pub put_where : D → Map T S
  put_where d = map_where test (λ x. put x d) m

  -- Whatever data are written to the only item that passes the test, they replace those of this item alone.
  -- Example: For the test whether the first key is 2, a map of the bag becomes one of (2, 20) with the data `d`,
  -- (1, 10) and (3, 30).
  abbrev pub SwapsWhere : Ranks T → Type 0
  SwapsWhere ranks =
      (x : T) (d : D) → IsOnly test (bag m) (Some x) → IsPermutation (bag (put_where d)) (swap ranks (bag m) x (put x d))

  -- `r` lends the data of the only item that passes the test, its `part`, or is `None`. For each function `write` that
  -- leaves an item as it is if the item fails the test, and otherwise makes of it what the data that are written make
  -- of it, the new bag has `write` of each item. It may count on what the item's data were. At `None` the bag stays.
  -- Example: For the test whether the first key is 2, and the function that stores `d` in such an item, the new bag has
  -- (1, 10), (2, 20) with the data `d`, and (3, 30).
  abbrev pub MapsWhere : (T → D) → Option (MutBor D) → Type 0
  MapsWhere part r = MatchOption r
      ((write : T → T) → ((x : T) → test x ≡ false → write x ≡ x) → IsPermutation (bag m) (map write (bag m)))
      (λ lent. (d : D) (write : T → T) → ((x : T) → test x ≡ true → lent.now ≡ part x → write x ≡ put x d)
      → ((x : T) → test x ≡ false → write x ≡ x) → IsPermutation (bag (put_where d)) (map write (bag m)))

  -- If the only item that passes the test has these data already, nothing changes.
  -- Example: For the test whether the first key is 4, a map of the bag stays as it is.
  abbrev pub StaysWhere : Type 0
  StaysWhere = (d : D) → ((x : T) → IsOnly test (bag m) (Some x) → put x d ≡ x) → put_where d ≡ m

-- A slot that is live stays live.
pub still_live : {T : Type 0} (f : T → T) (slots : List (Option T)) (i j : ℕ) → is_some (get slots j) ≡ true
    → is_some (get (slice_set slots i (of_item f (get slots i))) j) ≡ true
still_live f [] i j h = h
still_live f (None ∷ xs) zero j h = h
still_live f (Some x ∷ xs) zero zero h = refl
still_live f (Some x ∷ xs) zero (suc j) h = h
still_live f (x ∷ xs) (suc i) zero h = h
still_live f (x ∷ xs) (suc i) (suc j) h = still_live f xs i j h
