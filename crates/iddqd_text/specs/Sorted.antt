-- Items in the order of their first keys.
use Rattle.std.specs.Prelude.{ℕ, List, [], ◌∷◌, nat_lt, if◌then◌else◌}

-- the first of the numbers
abbrev pub first_of : List ℕ → ℕ
first_of [] = 0
first_of (n ∷ numbers) = n

module _ {T : Type 0} (numbers : T → List ℕ) where
  -- the first of an item's numbers
  abbrev pub first_key : T → ℕ
  first_key item = first_of (numbers item)

  -- an item before the first one whose first key isn't smaller
  abbrev pub put_in : T → List T → List T
  put_in x [] = x ∷ []
  put_in x (y ∷ ys) = if nat_lt (first_key y) (first_key x) then y ∷ put_in x ys else x ∷ y ∷ ys

  -- items by their first keys, the smallest first; those with the same first key stay in their order
  abbrev pub by_first_key : List T → List T
  by_first_key [] = []
  by_first_key (x ∷ xs) = put_in x (by_first_key xs)
