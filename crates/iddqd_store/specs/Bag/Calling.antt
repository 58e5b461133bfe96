-- Which items a closure may be called with.
use Rattle.std.specs.Prelude.{◌≡◌, List, [], ◌∷◌, ◌++◌, IsPermutation}
use Rattle.std.specs.Borrow.{Bor}
use Rattle.std.specs.Fn.{Mut, TakesAt, CalledAt}

module _ {F T R : Type 0} (g : Mut F (Bor T × Unit {0}) R) where
  -- Calls of the closure `f` at each item of the list in turn may leave it in the state `q`.
  -- Example: Calls at (1, 10), (2, 20) leave a closure that counts its calls in the state in which it has counted two.
  abbrev pub Reaches : F → List T → F → Type 0
  Reaches f [] q = f ≡ q
  Reaches f (x ∷ xs) q = (r : R) × (h : F) × CalledAt g f x r h × Reaches h xs q

  -- The closure `f` may be called at each item of the list in turn: at each item, in each state that the calls at the
  -- items before it may leave.
  -- Example: A closure that divides by the second key may be called at (1, 10), (2, 20), and not at (1, 0).
  abbrev pub TakesInTurn : F → List T → Type 0
  TakesInTurn f list = (before : List T) (x : T) (after : List T) (q : F)
      → list ≡ before ++ x ∷ after → Reaches f before q → TakesAt g q x

  -- The closure `f` may be called at each item of the bag once, in any order.
  -- Example: A closure that adds 1 to the second key may be called at the bag, and not if a second key is the largest
  -- number.
  abbrev pub TakesInAnyOrder : F → List T → Type 0
  TakesInAnyOrder f bag = (listed : List T) → IsPermutation bag listed → TakesInTurn f listed
