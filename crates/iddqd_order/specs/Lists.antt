-- What calls make of the list of a map in an order. In the examples an item is a number.
use Rattle.std.specs.Prelude.{◌≡◌, Bool, List, ◌∷◌, ◌++◌, filter}
use Rattle.std.specs.Ordering.{is_lt, is_gt}
use Rattle.std.specs.declared.cmp.Ordering.{Ordering}

module _ {T : Type 0} where
  -- `with_item` lists the items that are lower than `x`, then `x`, and then those that are higher.
  -- Example: For 3, 5, 7 and 4 it is 3, 4, 5, 7. An item 5 takes the place of the one that is level with it.
  abbrev pub with_item : (T → T → Ordering) → List T → T → List T
  with_item by xs x = filter (λ y. is_lt (by y x)) xs ++ x ∷ filter (λ y. is_gt (by y x)) xs

  -- For each test that tells what the closure returns at an item, where no call changes the closure `f`, `kept` lists the items that
  -- pass.
  -- Example: For a closure that tells whether a number is odd, and 1, 2, 3, it is 1, 3.
  abbrev pub Filters : {F : Type 0} → (F → T → Bool → F → Type 0) → F → List T → List T → Type 0
  Filters {F} step f xs kept =
      (test : T → Bool) → ((x : T) (b : Bool) (g : F) → step f x b g → (g ≡ f) × (b ≡ test x)) → kept ≡ filter test xs
