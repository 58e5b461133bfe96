-- What becomes of orders that others replace.
use Rattle.std.specs.Prelude.{◌≡◌, List, [], ◌∷◌, IsPermutation}
use Rattle.example_recipes.specs.declared.orders.Order.{Order}

-- Each order in turn took the place of one with its number.
abbrev pub ReplacesEach : List Order → List Order → List Order → Type 0
ReplacesEach [] old new = IsPermutation new old
ReplacesEach (o ∷ more) old new = (was : Order) × (between : List Order) × (was.number ≡ o.number) × IsPermutation (was ∷ between) (o ∷ old) × ReplacesEach more between new
