-- The two ends of an iteration for writing.
use Rattle.std.specs.Prelude.{◌≡◌, ℕ, ◌+◌, List}
use Rattle.iddqd_order.specs.declared.place.Place.{Place}
use Rattle.iddqd_order.specs.Row.{position, IsPlace}

-- So many items stand between two places. No public clause cites it.
pub record IsBetween {T : Type 0} (row : List (List T)) (from to : Place) (left : ℕ) : Type 0 where
  pub first : IsPlace row from
  pub last : IsPlace row to
  pub count : position row from + left ≡ position row to
