-- What a search of a table returns and costs.
use Rattle.std.specs.Prelude.{ℕ, ◌+◌, ◌%◌, ◌≡◌, ◌<◌, ◌≤◌, Bool, true, false, Option}
use Rattle.std.specs.Prelude.{Contains, IfSome, IfNone, MatchOption, length, count_by}
use Rattle.iddqd_store.specs.Table.Ring.{gap, stretch}
use Rattle.iddqd_store.specs.Table.{hashes, has_hash, IsFree, Probes, Spot, Table}

-- The result is a slot with this hash that is accepted, or `None` if no slot with the hash is accepted.
-- Example: In (5, 0), (6, 2) it is `Some 2` for the hash 6, if 2 is accepted.
pub record FindsByHash (table : Table) (hash : ℕ) (accepts : ℕ → Bool) (answer : Option ℕ) : Type 0 where
  pub found : IfSome answer (λ index. Contains table.pairs (hash, index))
  pub accepted : IfSome answer (λ index. accepts index ≡ true)
  pub none : IfNone answer ((index : ℕ) → Contains table.pairs (hash, index) → accepts index ≡ false)

-- This is the empty cell into which a pair with this hash goes.
-- Example: Among 8 cells with the hashes 2, 2 it is 4 for the hash 2.
pub record IsVacantForHash (table : Table) (sought : ℕ) (spot : Spot) : Type 0 where
  pub hash : spot.hash ≡ sought
  pub cells : spot.cells ≡ length table.row
  pub vacant : IsFree (hashes table.pairs) spot

-- The matcher is asked no more questions than there are pairs with the hash, and cells are probed from the home of the
-- hash up to the result (`Probes`).
-- Example: In (5, 0), (6, 2) a search for 6 asks at most once.
pub record CostsByHash {A : Type 0} (table : Table) (hash : ℕ) (answer : Option A)
    (asks asks_then before after : ℕ) : Type 0 where
  pub asked : asks_then ≤ asks + count_by (has_hash hash) table.pairs
  pub probes : Probes (hashes table.pairs) (length table.row) hash answer before after
  pub within : stretch (hashes table.pairs) (length table.row) hash ≤ length table.pairs

-- A removal by a search asks about no more pairs than have the hash, and probes each cell from the home of the hash on
-- up to the first empty one once, whatever it finds.
-- Example: Among 8 cells with the hashes 2, 2 a removal by the hash 2 asks at most twice, and probes 3 cells.
pub record RemovalCosts (table : Table) (hash asks asks_then before after : ℕ) : Type 0 where
  pub asked : asks_then ≤ asks + count_by (has_hash hash) table.pairs
  pub no_cells : length table.row ≡ 0 → after ≡ before
  pub probes : 0 < length table.row → after ≡ before + stretch (hashes table.pairs) (length table.row) hash + 1
  pub within : stretch (hashes table.pairs) (length table.row) hash ≤ length table.pairs

-- If a search found this cell, a removal from it has probed the cells after it, up to the first empty one; if it found none,
-- nothing.
-- Example: Among 8 cells with the hashes 2, 2 a removal from the cell 2 probes 2 cells, and one from the cell 3 one.
abbrev pub IsRemovedAt : Table → ℕ → Option ℕ → ℕ → ℕ → Type 0
IsRemovedAt table hash found before after =
    MatchOption found (after ≡ before)
    (λ at. after + gap (length table.row) (hash % length table.row) at ≡ before + stretch (hashes table.pairs) (length table.row) hash)
