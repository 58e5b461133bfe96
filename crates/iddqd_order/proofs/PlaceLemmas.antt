-- Places of a row, and where they are after a block was split.
use Rattle.std.proofs.Common.{◌≡◌, ℕ, zero, suc, ◌+◌, ◌<◌, ◌≤◌, List, [], ◌∷◌, length, set, take, refl, inl, inr, ap, ◌∙◌, arith, add-one, ◌++◌, append_assoc}
use Rattle.std.proofs.lemmas.Bool.{cases_lt}
use Rattle.std.specs.List.{insert, remove}
use Rattle.std.proofs.lemmas.List.{get_or_past, length-append, length-set, get_or-set_same, take-set}
use Rattle.std.proofs.lemmas.List.Edits.{length-insert, length-remove, get_or-insert_below, get_or-insert_at}
use Rattle.iddqd_order.specs.declared.place.Place.{Place}
use Rattle.iddqd_order.specs.Row.{line, block_at, start_of, position, IsPlace, HasEntry}
use Rattle.iddqd_order.proofs.LineLemmas.{length_parts, start_of-next, start_of-all}

module _ {E : Type 0} where
  -- a place past the last block is the end of the list
  pub position-past : (row : List (List E)) (p : Place) → IsPlace row p → length row ≤ p.block → position row p ≡ length (line row)
  position-past row p is past = omega (arith, start_of-all row p.block past, ap length (get_or_past row p.block [] past), is.offset)

  -- so is the end of the last block
  pub position-end : (row : List (List E)) (p : Place) → p.block < length row → length row ≤ p.block + 1 → p.offset ≡ length (block_at row p.block) → position row p ≡ length (line row)
  position-end row p within last end = omega (arith, start_of-next row p.block within, start_of-all row (p.block + 1) last)

  -- the end of another block is the place of the next block's first entry
  pub position-next : (row : List (List E)) (p q : Place) → p.block < length row → p.offset ≡ length (block_at row p.block) → q.block ≡ p.block + 1 → q.offset ≡ 0 → position row q ≡ position row p
  position-next row p q within end next first = omega (arith, start_of-next row p.block within, ap (start_of row) next)

  -- a block that is split
  take-split : (row : List (List E)) (b : ℕ) (x y : List E) → b < length row → take b (insert (set row b x) (suc b) y) ≡ take b row
  take-split [] b x y within = absurd (omega arith)
  take-split (z ∷ row) zero x y within = refl
  take-split (z ∷ row) (suc b) x y within = ap (λ (q : List (List E)). z ∷ q) (take-split row b x y (omega arith))

  module _ (row : List (List E)) (b : ℕ) (x y : List E) (within : b < length row) where
    new : List (List E)
    new = insert (set row b x) (suc b) y

    in_set : suc b ≤ length (set row b x)
    in_set = omega (arith, length-set row b x)

    pub block_at-head : block_at (insert (set row b x) (suc b) y) b ≡ x
    block_at-head = get_or-insert_below (set row b x) (suc b) y [] b (omega arith) in_set ∙ get_or-set_same row b x [] within

    pub block_at-tail : block_at (insert (set row b x) (suc b) y) (suc b) ≡ y
    block_at-tail = get_or-insert_at (set row b x) (suc b) y [] in_set

    pub length-split : length (insert (set row b x) (suc b) y) ≡ length row + 1
    length-split = omega (arith, length-insert (set row b x) (suc b) y in_set, length-set row b x)

    pub start_of-head : start_of (insert (set row b x) (suc b) y) b ≡ start_of row b
    start_of-head = ap (λ (q : List (List E)). length (line q)) (take-split row b x y within)

    pub start_of-tail : start_of (insert (set row b x) (suc b) y) (suc b) ≡ start_of row b + length x
    start_of-tail =
        let next = rw add-one at (start_of-next (insert (set row b x) (suc b) y) b (omega (arith, length-split))) in
        next ∙ ap (λ (n : ℕ). n + length (block_at (insert (set row b x) (suc b) y) b)) start_of-head ∙ ap (λ (q : List E). start_of row b + length q) block_at-head

  -- two blocks that are joined
  take-joined : (row : List (List E)) (j : ℕ) (x : List E) → suc j < length row → take j (set (remove row (suc j)) j x) ≡ take j row
  take-joined [] j x within = absurd (omega arith)
  take-joined (z ∷ row) zero x within = refl
  take-joined (z ∷ row) (suc j) x within = ap (λ (q : List (List E)). z ∷ q) (take-joined row j x (omega arith))

  module _ (row : List (List E)) (j : ℕ) (x : List E) (within : suc j < length row) where
    pub length-joined : length (set (remove row (suc j)) j x) + 1 ≡ length row
    length-joined = omega (arith, length-set (remove row (suc j)) j x, length-remove row (suc j) within)

    pub block_at-joined : block_at (set (remove row (suc j)) j x) j ≡ x
    block_at-joined = get_or-set_same (remove row (suc j)) j x [] (omega (arith, length-remove row (suc j) within))

    pub start_of-joined : start_of (set (remove row (suc j)) j x) j ≡ start_of row j
    start_of-joined = ap (λ (q : List (List E)). length (line q)) (take-joined row j x within)

  -- where the blocks start before two that are joined, and behind them
  take-joined_before : (row : List (List E)) (j k : ℕ) (x : List E) → suc j < length row → k ≤ j → take k (set (remove row (suc j)) j x) ≡ take k row
  take-joined_before [] j k x within le = absurd (omega arith)
  take-joined_before (z ∷ row) j zero x within le = refl
  take-joined_before (z ∷ row) zero (suc k) x within le = absurd (omega arith)
  take-joined_before (z ∷ row) (suc j) (suc k) x within le = ap (λ (q : List (List E)). z ∷ q) (take-joined_before row j k x (omega arith) (omega arith))

  line-joined_behind : (row : List (List E)) (j k : ℕ) → suc j < length row → j < k
      → line (take k (set (remove row (suc j)) j (block_at row j ++ block_at row (suc j)))) ≡ line (take (suc k) row)
  line-joined_behind [] j k within lt = absurd (omega arith)
  line-joined_behind (z ∷ []) j k within lt = absurd (omega arith)
  line-joined_behind (z ∷ (w ∷ row)) j zero within lt = absurd (omega arith)
  line-joined_behind (z ∷ (w ∷ row)) zero (suc k) within lt = append_assoc z w (line (take k row))
  line-joined_behind (z ∷ (w ∷ row)) (suc j) (suc k) within lt = ap (λ (q : List E). z ++ q) (line-joined_behind (w ∷ row) j k (omega arith) (omega arith))

  pub start_of-joined_before : (row : List (List E)) (j k : ℕ) (x : List E) → j + 1 < length row → k ≤ j → start_of (set (remove row (j + 1)) j x) k ≡ start_of row k
  start_of-joined_before row j k x within le = rw add-one (ap (λ (q : List (List E)). length (line q)) (take-joined_before row j k x (omega (arith, within)) le))

  pub start_of-joined_behind : (row : List (List E)) (j k : ℕ) → j + 1 < length row → j < k
      → start_of (set (remove row (j + 1)) j (block_at row j ++ block_at row (j + 1))) k ≡ start_of row (k + 1)
  start_of-joined_behind row j k within lt = rw (add-one, add-one) (ap length (line-joined_behind row j k (omega (arith, within)) lt))

  -- a block that starts and ends where one of another row does has as many entries
  pub length-same_bounds : (old new : List (List E)) (a b : ℕ) → a < length old → b < length new → start_of new b ≡ start_of old a → start_of new (b + 1) ≡ start_of old (a + 1)
      → length (block_at new b) ≡ length (block_at old a)
  length-same_bounds old new a b in_old in_new start end = omega (arith, start_of-next old a in_old, start_of-next new b in_new, start, end)

  -- an edit of a block leaves where it starts
  pub start_of-set : (row : List (List E)) (b : ℕ) (x : List E) → start_of (set row b x) b ≡ start_of row b
  start_of-set row b x = ap (λ (q : List (List E)). length (line q)) (take-set row b x)

  -- an entry stands within the list
  pub position-below : (row : List (List E)) (p : Place) → HasEntry row p → position row p < length (line row)
  position-below row p there = omega (arith, length_parts row p.block there.block, there.offset)

  -- a place stands within the list, or at its end
  pub position-within : (row : List (List E)) (p : Place) → IsPlace row p → position row p ≤ length (line row)
  position-within row p is = elim (cases_lt p.block (length row)) [
    | inl within ↦ omega (arith, length_parts row p.block within, is.offset)
    | inr past ↦ omega (arith, position-past row p is past)
  ]

  -- places in order
  pub start_of-le : (row : List (List E)) (a b : ℕ) → a ≤ b → start_of row a ≤ start_of row b
  start_of-le row zero b le = omega arith
  start_of-le row (suc a) zero le = absurd (omega arith)
  start_of-le [] (suc a) (suc b) le = omega arith
  start_of-le (x ∷ row) (suc a) (suc b) le = omega (arith, start_of-le row a b (omega arith), length-append x (line (take a row)), length-append x (line (take b row)))

  -- other entries in a block leave the places as they are
  pub start_of-same : (row : List (List E)) (b : ℕ) (x : List E) → length x ≡ length (block_at row b) → (c : ℕ) → start_of (set row b x) c ≡ start_of row c
  start_of-same [] b x same c = refl
  start_of-same (y ∷ row) zero x same zero = refl
  start_of-same (y ∷ row) (suc b) x same zero = refl
  start_of-same (y ∷ row) zero x same (suc c) = omega (arith, same, length-append x (line (take c row)), length-append y (line (take c row)))
  start_of-same (y ∷ row) (suc b) x same (suc c) = omega (arith, start_of-same row b x same c, length-append y (line (take c (set row b x))), length-append y (line (take c row)))

  pub length-same : (row : List (List E)) (b : ℕ) (x : List E) → length x ≡ length (block_at row b) → (c : ℕ) → length (block_at (set row b x) c) ≡ length (block_at row c)
  length-same [] b x same c = refl
  length-same (y ∷ row) zero x same zero = same
  length-same (y ∷ row) zero x same (suc c) = refl
  length-same (y ∷ row) (suc b) x same zero = refl
  length-same (y ∷ row) (suc b) x same (suc c) = length-same row b x same c

  pub position-same : (row : List (List E)) (b : ℕ) (x : List E) → length x ≡ length (block_at row b) → (p : Place) → position (set row b x) p ≡ position row p
  position-same row b x same p = omega (arith, start_of-same row b x same p.block)

  pub HasEntry-same : (row : List (List E)) (b : ℕ) (x : List E) → length x ≡ length (block_at row b) → (p : Place) → HasEntry row p → HasEntry (set row b x) p
  HasEntry-same row b x same p has = record { block = omega (arith, length-set row b x, has.block); offset = omega (arith, length-same row b x same p.block, has.offset) }

  pub length_line-same : (row : List (List E)) (b : ℕ) (x : List E) → length x ≡ length (block_at row b) → length (line (set row b x)) ≡ length (line row)
  length_line-same row b x same =
      let long = length-set row b x in
      omega (arith, start_of-all (set row b x) (length row) (omega (arith, long)), start_of-all row (length row) (omega arith), start_of-same row b x same (length row))
