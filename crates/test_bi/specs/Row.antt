-- Words on a row.
use Rattle.std.specs.Prelude.{ℕ}
use Rattle.test_bi.specs.declared.row.Row.{Row}

-- the row with another value
abbrev pub with_value : Row → ℕ → Row
with_value x w = record x { value = w }
