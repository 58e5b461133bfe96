-- How many pairs fit into a table.
use Rattle.std.specs.Prelude.{ℕ, ◌+◌, ◌*◌, ◌^◌, ◌≡◌, ◌<◌, ◌≤◌, Result, IsErr, OnOk, OnErr, length}
use Rattle.iddqd_store.specs.Table.Limit.{capacity_of, IsLeast, IsSize, most_room}
use Rattle.iddqd_store.specs.Table.{Table}

-- A `usize` counts the cells. There are 0 of them, or a power of two from 8 on, and an eighth of them stays empty.
-- Example: With 8 cells 7 pairs fit.
pub record IsSized (table : Table) : Type 0 where
  pub size : IsSize (length table.row)
  pub counted : length table.row < 2 ^ 64
  pub limit : table.limit ≡ capacity_of (length table.row)
  pub fits : length table.pairs ≤ table.limit

-- This many more pairs fit in the table after `Ok`. A table grows only if they did not fit, and then it has the fewest
-- cells that hold them. The call fails only if they do not fit, and it always fails if no table can hold them. After an
-- error the table is as it was.
-- Example: With 3 pairs and the capacity 7, the capacity for 5 more is 14 after `Ok`.
pub record GrowsFor {A E : Type 0} (old : Table) (more : ℕ) (result : Result A E) (new : Table) : Type 0 where
  pub room : OnOk result (length old.pairs + more ≤ new.limit)
  pub least : OnOk result (old.limit < length old.pairs + more → IsLeast (length old.pairs + more) new.limit)
  pub stays : length old.pairs + more ≤ old.limit → new ≡ old
  pub reason : OnErr result (old.limit < length old.pairs + more)
  pub past : most_room < length old.pairs + more → IsErr result
  pub unchanged : OnErr result (new ≡ old)

-- So many spare cells are what a table needs for `more` pairs more: none if they fit, and otherwise the fewest that hold
-- them.
-- Example: With 3 pairs in 8 cells it is 0 for 4 more, and 16 for 5 more.
pub record IsSpareFor (table : Table) (more spare : ℕ) : Type 0 where
  pub size : IsSize spare
  pub none : length table.pairs + more ≤ table.limit → spare ≡ 0
  pub some : table.limit < length table.pairs + more → 0 < spare
  pub least : table.limit < length table.pairs + more → IsLeast (length table.pairs + more) (capacity_of spare)

-- At most this many cells are probed to make a larger table: each old cell, and for each pair its old cell once more, the
-- new one, and as many as there are pairs.
-- Example: From 8 cells with 7 pairs it is 8 + 2 * 7 + 7 * 7 = 71.
abbrev pub growth_within : Table → ℕ
growth_within old = length old.row + 2 * length old.pairs + length old.pairs * length old.pairs

-- After `Ok` at most this many cells were probed, and after an error none.
-- Example: If it is 71, a meter at 5 is at 76 at most after `Ok`, and at 5 after an error.
pub record ProbesAtMost {A E : Type 0} (most : ℕ) (result : Result A E) (before after : ℕ) : Type 0 where
  pub done : OnOk result (after ≤ before + most)
  pub refused : OnErr result (after ≡ before)
