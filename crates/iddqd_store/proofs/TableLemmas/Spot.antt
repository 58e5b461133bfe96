-- The empty cell at which a search ended.
use Rattle.std.proofs.Common.{◌≡◌, ℕ, suc, zero, ◌<◌, ◌≤◌, ◌%◌, List, Option, None, Some, length, refl, sym, ap, ◌∙◌, subst, ⊎_elim, arith, inl, inr, ◌⊎◌, below_more}
use Rattle.std.specs.Prelude.{◌≢◌}
use Rattle.std.specs.List.Sorted.{IsPermutation}
use Rattle.iddqd_store.specs.Slots.{contents}
use Rattle.iddqd_store.specs.Table.Ring.{gap, stretch, cell}
use Rattle.iddqd_store.specs.Table.{hashes, IsTable, IsFirstEmpty, IsFree, Spot}
use Rattle.iddqd_store.proofs.TableLemmas.Ring.{gap_below}
use Rattle.iddqd_store.proofs.TableLemmas.Stretch.{place, place_gap, stretch_permutation}
use Rattle.iddqd_store.proofs.TableLemmas.Search.{past_walk, Walk, Empty, room, walk_end, walk_below, walk_first, walk_gap}

-- a walk from a home on that ends at an empty cell
abbrev Ends : List (Option (ℕ × ℕ)) → ℕ → Type 0
Ends row home = (at : ℕ) × (s : ℕ) × Walk row home at s × (cell row at ≡ None)

-- this many steps from a home on lead only over occupied cells, or some walk ends
walk_on : (row : List (Option (ℕ × ℕ))) (home : ℕ) → home < length row → (m : ℕ) → m ≤ length row → ((k : ℕ) → k < m → cell row (place (length row) home k) ≢ None) ⊎ Ends row home
walk_on row home l zero lm = inl (λ k lk. absurd (omega arith))
walk_on row home l (suc m) lm = by_cell (cell row (place (length row) home m)) refl (walk_on row home l m (omega arith))
  where
    by_cell : (o : Option (ℕ × ℕ)) → cell row (place (length row) home m) ≡ o
        → ((k : ℕ) → k < m → cell row (place (length row) home k) ≢ None) ⊎ Ends row home
        → ((k : ℕ) → k < suc m → cell row (place (length row) home k) ≢ None) ⊎ Ends row home
    by_cell o is (inr ends) = inr ends
    by_cell None is (inl passed) = inr (place (length row) home m, m, record { within = omega arith; at_is = refl; passed = passed }, is)
    by_cell (Some x) is (inl passed) = inl (λ k lk. below_more (λ (k : ℕ). cell row (place (length row) home k) ≢ None) m passed (λ z. cc (z, is)) k (omega arith))

-- from each home some walk ends, since a cell is empty
walk_ends : (row : List (Option (ℕ × ℕ))) (home : ℕ) → IsTable row → home < length row → Ends row home
walk_ends row home t l =
    let e : Empty row = room row t (omega arith) in
    let g = gap_below (length row) home e.0 l e.1 in
    ⊎_elim (λ (passed : (k : ℕ) → k < length row → cell row (place (length row) home k) ≢ None).
    absurd (let far = past_walk row home e.0 (length row) l e.1 e.2 passed in omega (arith, far, g)))
    (λ (ends : Ends row home). ends)
    (walk_on row home l (length row) (omega arith))

-- a search that ends at an empty cell gives it
pub walk_free : (row : List (Option (ℕ × ℕ))) (hash at s : ℕ) → IsTable row → 0 < length row → Walk row (hash % length row) at s → cell row at ≡ None
    → IsFree (hashes (contents row)) (record { hash = hash; cells = length row; at = at })
walk_free row hash at s t some w none =
    let l : hash % length row < length row = omega arith in
    record {
      below = λ _. walk_below row (hash % length row) at s l w;
      away = λ _. walk_gap row (hash % length row) at s l w ∙ sym (walk_end row hash at s t w none);
    }

-- it is the first empty one of a table with the same hashes in as many cells
pub free_first : (row : List (Option (ℕ × ℕ))) (spot : Spot) → IsTable row → IsFree (hashes (contents row)) spot → spot.cells ≡ length row
    → 0 < length row → IsFirstEmpty row (spot.hash % length row) spot.at
free_first row spot t free same some =
    let home : ℕ = spot.hash % length row in
    let l : home < length row = omega arith in
    let below : spot.at < length row = rw same at free.below (omega arith) in
    let away : gap (length row) home spot.at ≡ stretch (hashes (contents row)) (length row) spot.hash = rw same at free.away (omega arith) in
    let ends : Ends row home = walk_ends row home t l in
    let w : Walk row home ends.0 ends.1 = ends.2 in
    let e : stretch (hashes (contents row)) (length row) spot.hash ≡ ends.1 = walk_end row spot.hash ends.0 ends.1 t w ends.3 in
    let at : ends.0 ≡ spot.at = w.at_is ∙ (ap (place (length row) home) (sym e ∙ sym away) ∙ place_gap (length row) home spot.at l below) in
    subst (IsFirstEmpty row home) at (walk_first row home ends.0 ends.1 l w ends.3)

-- the order of the hashes does not matter
pub free_permutation : (xs ys : List ℕ) (spot : Spot) → IsPermutation xs ys → IsFree xs spot → IsFree ys spot
free_permutation xs ys spot same free =
    record { below = free.below; away = λ some. free.away some ∙ stretch_permutation xs ys spot.cells spot.hash same }
