-- Made by tests/widths from crates/test_bi/specs/Row.antt: change that file.

-- Words on a row.
use Rattle.std.specs.Prelude.{ℕ}
use Rattle.test_tri.specs.declared.row.Row.{Row}

-- the row with another value
abbrev pub with_value : Row → ℕ → Row
with_value x w = record x { value = w }
