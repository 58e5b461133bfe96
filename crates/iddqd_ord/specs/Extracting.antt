-- Items that are reached one by one from a cursor on. In the examples an item is a number, which is its key.
use Rattle.std.specs.Prelude.{◌≡◌, ℕ, Bool, true, List, [], ◌∷◌, ◌++◌, Option, Some, IfSome, IfNone, take, drop, filter, not, slice_get}
use Rattle.std.specs.Option.{option_to_list}
use Rattle.iddqd_store.specs.Map.Extracting.{Rejects}
use Rattle.iddqd_order.specs.declared.place.Place.{Place}
use Rattle.iddqd_order.specs.Row.{position}
use Rattle.iddqd_ord.specs.Items.{OrdMap, items}

-- A cursor that has passed no item of any map.
pub record IsAtStart (at : Place) : Type 0 where
  pub block : at.block ≡ 0
  pub offset : at.offset ≡ 0

module _ {T : Type 0} where
  -- `passed_items` lists the items before the cursor.
  -- Example: For 3, 5, 7 and a cursor that has passed 3 it is 3.
  abbrev pub passed_items : OrdMap T → Place → List T
  passed_items m at = take (position m.blocks at) (items m)

  -- `to_come` lists the items from the cursor on.
  -- Example: For 3, 5, 7 and a cursor that has passed 3 it is 5, 7.
  abbrev pub to_come : OrdMap T → Place → List T
  to_come m at = drop (position m.blocks at) (items m)

  -- The next item from the cursor on is `o`, and it left. The items before the cursor stay. If `o` is `None`, no item was there.
  -- Example: From the start on, 3 leaves 3, 5, 7 first. Then no item is before the cursor, and 5, 7 are to come.
  pub record PopsFrom (m : OrdMap T) (from : Place) (o : Option T) (n : OrdMap T) (to : Place) : Type 0 where
    pub comes : to_come m from ≡ option_to_list o ++ to_come n to
    pub before : passed_items n to ≡ passed_items m from
    pub none_left : IfNone o (to_come n to ≡ [])
    pub lists : items n ≡ passed_items n to ++ to_come n to

  -- The next item from the cursor on is `x`, and once written it is the last item before the cursor. Those after it stay.
  -- Example: A cursor that has passed 3 of 3, 5, 7 passes 5.
  pub record Passes (m : OrdMap T) (from : Place) (x : T) (written : (T → T) → OrdMap T) (to : Place) : Type 0 where
    pub comes : to_come m from ≡ x ∷ to_come m to
    pub before : (f : T → T) → passed_items (written f) to ≡ passed_items m from ++ f x ∷ []
    pub behind : (f : T → T) → to_come (written f) to ≡ to_come m to

  -- The items from the cursor on were tested, up to the first that passes, which is `o` and left. So what is still to be taken out is
  -- less that item, and what stays in the map in the end is the same.
  -- Example: For the test whether an item is even, 4 leaves 3, 4, 6, 7. Then 6 is still to be taken out, and 3, 7 stay in the end.
  pub record IsExtracted (test : T → Bool) (m : OrdMap T) (from : Place) (o : Option T) (n : OrdMap T) (to : Place) : Type 0 where
    pub passes : IfSome o (λ x. test x ≡ true)
    pub taken : filter test (to_come m from) ≡ option_to_list o ++ filter test (to_come n to)
    pub left : passed_items m from ++ filter (λ x. not (test x)) (to_come m from) ≡ passed_items n to ++ filter (λ x. not (test x)) (to_come n to)

module _ {F T : Type 0} (step : F → T → Bool → F → Type 0) where
  -- The closure `f` was called once with each item from the index `from` on, in turn, up to the first for which it returned `true`,
  -- which is at the index `to`. If there is none, `to` is the end of the list.
  -- Example: From 0 on, a closure that tells whether an item is even finds the 4 of 3, 4, 6 at the index 1.
  pub record FindsFrom (f : F) (xs : List T) (from to : ℕ) : Type 0 where
    pub rejected : List T
    pub state : F
    pub rejects : Rejects step f rejected state
    pub accepts : (x : T) → slice_get xs to ≡ Some x → (g : F) × step state x true g
    pub comes : drop from xs ≡ rejected ++ drop to xs
    pub before : take to xs ≡ take from xs ++ rejected

  -- The closure `f` was called once with each item from the cursor on, in turn, up to the first for which it returned `true`. That
  -- item is `o`, and it left. The items before it stay, and are before the cursor. If `f` returned `false` for every item, `o` is
  -- `None`, and no item is to come.
  -- Example: A closure that tells whether an item is even extracts 4 from 3, 4, 6. Then 3 is before the cursor, and 6 is to come.
  pub record Extracts (f : F) (m : OrdMap T) (from : Place) (o : Option T) (n : OrdMap T) (to : Place) : Type 0 where
    pub rejected : List T
    pub state : F
    pub rejects : Rejects step f rejected state
    pub accepts : IfSome o (λ x. (g : F) × step state x true g)
    pub comes : to_come m from ≡ rejected ++ (option_to_list o ++ to_come n to)
    pub before : passed_items n to ≡ passed_items m from ++ rejected
    pub none_left : IfNone o (to_come n to ≡ [])
    pub lists : items n ≡ passed_items n to ++ to_come n to

  -- For each test that tells what the closure returns at an item, where no call changes the closure `f`, the items were tested
  -- (`IsExtracted`).
  -- Example: A closure that tells whether an item is even tests whether it is.
  abbrev pub ExtractsBy : F → OrdMap T → Place → Option T → OrdMap T → Place → Type 0
  ExtractsBy f m from o n to =
      (test : T → Bool) → ((x : T) (b : Bool) (g : F) → step f x b g → (g ≡ f) × (b ≡ test x)) → IsExtracted test m from o n to
