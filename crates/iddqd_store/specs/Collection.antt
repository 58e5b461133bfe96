-- What happens where each item of a list is visited.
use Rattle.std.specs.Prelude.{◌≡◌, List, [], ◌∷◌}

-- The target of the visits is `old` before the first item, and `new` after the last one.
-- Example: Where a visit adds the item to a sum, the items 3, 5 take the sum from 1 to 9.
abbrev pub VisitsEach : {T Target : Type 0} → (T → Target → Target → Type 0) → List T → Target → Target → Type 0
VisitsEach visits [] old new = new ≡ old
VisitsEach {Target = Target} visits (x ∷ xs) old new = (next : Target) × visits x old next × VisitsEach visits xs next new
