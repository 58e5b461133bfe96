-- What holds for the cells of a table.
pub mod Cell
pub mod Limit
pub mod Ring
pub mod Room
pub mod Search
use Rattle.std.specs.Prelude.{ℕ, ◌+◌, ◌%◌, ◌^◌, ◌≡◌, ◌<◌, ◌≤◌, ◌==◌, Bool, List}
use Rattle.std.specs.Prelude.{◌∷◌, Option, None, Some, ◌≢◌, length, map, IfNone, OnSome}
use Rattle.std.specs.List.{IsDistinct}
use Rattle.std.specs.List.Sorted.{IsPermutation}
use Rattle.iddqd_store.specs.Table.Limit.{capacity_of, IsSize}
use Rattle.iddqd_store.specs.Slots.{contents}
use Rattle.iddqd_store.specs.Table.Ring.{cell, gap, stretch, IsReached}

-- `hashes` lists the hashes of the pairs.
-- Example: For (5, 0), (6, 2) they are 5, 6.
abbrev pub hashes : List (ℕ × ℕ) → List ℕ
hashes pairs = map (λ p. p.0) pairs

-- `has_hash` tells whether the pair has this hash.
-- Example: (5, 0) has the hash 5.
abbrev pub has_hash : ℕ → ℕ × ℕ → Bool
has_hash hash p = p.0 == hash

-- No two pairs have the same slot.
-- Example: It holds for (5, 0), (6, 2), and not for (5, 0), (6, 0).
abbrev pub HaveOwnSlots : List (ℕ × ℕ) → Type 0
HaveOwnSlots pairs = IsDistinct (λ p q. p.1 == q.1) pairs

-- A search for a hash probes no cell if there is none. If it finds nothing, it probes one more than the stretch of
-- the hash, and if it finds something, from 1 up to the stretch.
-- Example: Among 8 cells with the hashes 2, 2 a search for 2 that finds nothing probes 3.
pub record Probes {A : Type 0} (hashes : List ℕ) (cells hash : ℕ) (answer : Option A) (before after : ℕ) : Type 0 where
  pub no_cells : cells ≡ 0 → after ≡ before
  pub miss : 0 < cells → IfNone answer (after ≡ before + stretch hashes cells hash + 1)
  pub hit_least : OnSome answer (before + 1 ≤ after)
  pub hit_most : OnSome answer (after ≤ before + stretch hashes cells hash)

-- A search probes this many cells (`Probes`) of some table in which this many pairs fit.
-- Example: With the capacity 7 and the hash 2 once, a search for 2 that finds nothing probes 2 cells, where the table
-- has 8.
abbrev pub ProbesWithin : {A : Type 0} → List ℕ → ℕ → ℕ → Option A → ℕ → ℕ → Type 0
ProbesWithin hashes room hash answer before after =
    (cells : ℕ) × IsSize cells × (cells < 2 ^ 64) × (room ≤ capacity_of cells)
    × Probes hashes cells hash answer before after

-- The pair `after` has replaced `before`, and every other pair stays.
-- Example: From (5, 0), (6, 2) to (5, 0), (7, 2) the pair (7, 2) replaces (6, 2).
pub record ReplacesPair (old new : List (ℕ × ℕ)) (before after : ℕ × ℕ) : Type 0 where
  pub others : List (ℕ × ℕ)
  pub had : IsPermutation old (before ∷ others)
  pub has : IsPermutation new (after ∷ others)

-- The pair `after` has replaced two pairs, and every other pair stays.
-- Example: From (5, 0), (6, 2), (8, 3) to (5, 0), (6, 3) the pair (6, 3) replaces (6, 2) and (8, 3).
pub record ReplacesTwo (old new : List (ℕ × ℕ)) (one two after : ℕ × ℕ) : Type 0 where
  pub others : List (ℕ × ℕ)
  pub had : IsPermutation old (one ∷ two ∷ others)
  pub has : IsPermutation new (after ∷ others)

-- The pair `after` has replaced three pairs, and every other pair stays.
-- Example: From (6, 2), (8, 3), (9, 4) to (6, 4) the pair (6, 4) replaces all three.
pub record ReplacesThree (old new : List (ℕ × ℕ)) (one two three after : ℕ × ℕ) : Type 0 where
  pub others : List (ℕ × ℕ)
  pub had : IsPermutation old (one ∷ two ∷ three ∷ others)
  pub has : IsPermutation new (after ∷ others)

-- Each pair is found from its home on, and at least an eighth of the cells is empty.
-- Example: It holds for 8 empty cells.
pub record IsTable (row : List (Option (ℕ × ℕ))) : Type 0 where
  pub size : IsSize (length row)
  pub fits : length (contents row) ≤ capacity_of (length row)
  pub reached : IsReached (λ p. p.0 % length row) (length row) row

-- The cell `at` is the first empty one, from the cell `home` on.
-- Example: For `Some (0, 5)`, `None` and the home 0 it is 1.
pub record IsFirstEmpty (row : List (Option (ℕ × ℕ))) (home at : ℕ) : Type 0 where
  pub below : at < length row
  pub empty : cell row at ≡ None
  pub first : (q : ℕ) → q < length row → gap (length row) home q < gap (length row) home at → cell row q ≢ None

-- Each cell from `home` on is occupied, up to the one before `at`.
-- Example: For `Some (0, 5)`, `None` and the home 0 it holds for 0 and for 1.
pub record IsWayTo (row : List (Option (ℕ × ℕ))) (home at : ℕ) : Type 0 where
  pub below : at < length row
  pub first : (q : ℕ) → q < length row → gap (length row) home q < gap (length row) home at → cell row q ≢ None

-- The pair is in this cell, and each cell from the home bucket of its hash on is occupied up to it.
pub record IsCellOf (row : List (Option (ℕ × ℕ))) (pair : ℕ × ℕ) (at : ℕ) : Type 0 where
  pub stands : cell row at ≡ Some pair
  pub way : IsWayTo row (pair.0 % length row) at

-- Contracts see an empty cell at which a search ended as the hash, the number of cells, and the cell's own number.
-- Example: The hash 2, 8 cells, and 4.
pub record Spot : Type 0 where
  pub hash : ℕ
  pub cells : ℕ
  pub at : ℕ

-- Among this many cells with pairs of these hashes, this is the first empty one from the home of its hash on.
-- Example: Among 8 cells with the hashes 2, 2 it is 4 for the hash 2.
pub record IsFree (hashes : List ℕ) (spot : Spot) : Type 0 where
  pub below : 0 < spot.cells → spot.at < spot.cells
  pub away : 0 < spot.cells → gap spot.cells (spot.hash % spot.cells) spot.at ≡ stretch hashes spot.cells spot.hash

-- Contracts see a table as its pairs, the number of pairs that fit, and its cells.
-- Example: (5, 0), (6, 2), 7, and 8 cells.
pub record Table : Type 0 where
  pub pairs : List (ℕ × ℕ)
  pub limit : ℕ
  pub row : List (Option (ℕ × ℕ))

abbrev pub table_of : List (Option (ℕ × ℕ)) → Table
table_of row = record { pairs = contents row; limit = capacity_of (length row); row = row }
