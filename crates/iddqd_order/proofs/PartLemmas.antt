-- A part of the list that a row stands for.
use Rattle.std.proofs.Common.{◌≡◌, ℕ, zero, suc, ◌+◌, ◌-◌, ◌<◌, ◌≤◌, List, [], ◌∷◌, ◌++◌, length, take, drop, sym, ap, ◌∙◌, arith, zero-add, inl, inr}
use Rattle.std.specs.Prelude.{slice_range}
use Rattle.std.proofs.lemmas.Bool.{cases_lt}
use Rattle.std.proofs.lemmas.List.{append-nil, length-append, length-drop, take_all, drop-append-le, take-append-le, get_or_past, get_or-drop}
use Rattle.std.proofs.Math.Seq.{drop-append-add, take-append-add}
use Rattle.iddqd_order.specs.declared.place.Place.{Place}
use Rattle.iddqd_order.specs.Row.{line, block_at, start_of, position, IsPlace}
use Rattle.iddqd_order.proofs.LineLemmas.{line-append, line_parts, start_of-next, start_of-all}
use Rattle.iddqd_order.proofs.PlaceLemmas.{start_of-le}

pub range_none : {X : Type 0} (xs : List X) (i j : ℕ) → j ≤ i → slice_range xs i j ≡ []
range_none {X} xs i j le =
    let none : j - i ≡ 0 = omega (arith, le) in
    ap (λ (n : ℕ). take n (drop i xs)) none

module _ {E : Type 0} (row : List (List E)) where
  -- a part of one block
  pub range_block : (b i j : ℕ) → j ≤ length (block_at row b) → slice_range (line row) (start_of row b + i) (start_of row b + j) ≡ slice_range (block_at row b) i j
  range_block b i j le = elim (cases_lt i j) [
    | inl less ↦
        let within : b < length row = elim (cases_lt b (length row)) [ inl in_row ↦ in_row | inr past ↦ absurd (omega (arith, less, le, ap length (get_or_past row b [] past))) ] in
        let before = line (take b row) in
        let block = block_at row b in
        let rest = line (drop (suc b) row) in
        let many : start_of row b + j - (start_of row b + i) ≡ j - i = omega arith in
        let long = length-drop i block in
        ap (λ (n : ℕ). take n (drop (start_of row b + i) (line row))) many
        ∙ ap (λ (q : List E). take (j - i) (drop (start_of row b + i) q)) (line_parts row b within)
        ∙ ap (λ (q : List E). take (j - i) q) (drop-append-add before (block ++ rest) i)
        ∙ ap (λ (q : List E). take (j - i) q) (drop-append-le i block rest (omega (arith, less, le)))
        ∙ take-append-le (j - i) (drop i block) rest (omega (arith, long, le))
    | inr none ↦ range_none (line row) (start_of row b + i) (start_of row b + j) (omega (arith, none)) ∙ sym (range_none (block_at row b) i j none)
  ]

  -- a part that ends before it begins
  pub range_before : (from to : Place) → IsPlace row from → IsPlace row to → to.block < from.block → slice_range (line row) (position row from) (position row to) ≡ []
  range_before from to is_from is_to before =
      let next = start_of-next row to.block (omega (arith, before, is_from.block)) in
      let le = start_of-le row (to.block + 1) from.block (omega (arith, before)) in
      range_none (line row) (position row from) (position row to) (omega (arith, next, le, is_to.offset))

take-parts : {X : Type 0} (xs : List X) (c n : ℕ) → take (c + n) xs ≡ take c xs ++ take n (drop c xs)
take-parts {X} xs zero n = ap (λ (k : ℕ). take k xs) (zero-add n)
take-parts {X} [] (suc c) n = take_all (suc c + n) [] (omega arith) ∙ sym (take_all n [] (omega arith))
take-parts {X} (x ∷ xs) (suc c) n =
    let next : suc c + n ≡ suc (c + n) = omega arith in
    ap (λ (k : ℕ). take k (x ∷ xs)) next ∙ ap (λ (q : List X). x ∷ q) (take-parts xs c n)

module _ {E : Type 0} where
  start_of-parts : (row : List (List E)) (c n : ℕ) → start_of row (c + n) ≡ start_of row c + start_of (drop c row) n
  start_of-parts row c n =
      ap (λ (q : List (List E)). length (line q)) (take-parts row c n) ∙ ap length (line-append (take c row) (take n (drop c row))) ∙ length-append (line (take c row)) (line (take n (drop c row)))

  -- the list up to an offset of a block
  take_to : (row : List (List E)) (b j : ℕ) → b ≤ length row → j ≤ length (block_at row b) → take (start_of row b + j) (line row) ≡ line (take b row) ++ take j (block_at row b)
  take_to row b j le small = elim (cases_lt b (length row)) [
    | inl within ↦
        let before = line (take b row) in
        let rest = line (drop (suc b) row) in
        ap (λ (q : List E). take (start_of row b + j) q) (line_parts row b within)
        ∙ take-append-add before (block_at row b ++ rest) j
        ∙ ap (λ (q : List E). before ++ q) (take-append-le j (block_at row b) rest small)
    | inr past ↦
        let none : j ≡ 0 = omega (arith, small, ap length (get_or_past row b [] past)) in
        let whole : take b row ≡ row = take_all b row past in
        let all : start_of row b + j ≡ length (line row) = omega (arith, start_of-all row b past, none) in
        ap (λ (n : ℕ). take n (line row)) all
        ∙ take_all (length (line row)) (line row) (omega arith)
        ∙ sym (append-nil (line row))
        ∙ ap (λ (q : List (List E)). line q ++ []) (sym whole)
        ∙ ap (λ (n : ℕ). line (take b row) ++ take n (block_at row b)) (sym none)
  ]

  -- a part over several blocks
  pub range_across : (row : List (List E)) (a i b j : ℕ) → a < b → b ≤ length row → i ≤ length (block_at row a) → j ≤ length (block_at row b)
      → slice_range (block_at row a) i (length (block_at row a)) ++ (line (slice_range row (a + 1) b) ++ slice_range (block_at row b) 0 j)
      ≡ slice_range (line row) (start_of row a + i) (start_of row b + j)
  range_across row a i b j less le small_i small_j =
      let within : a < length row = omega (arith, less, le) in
      let first = block_at row a in
      let rest = line (drop (suc a) row) in
      let long = length-drop i first in
      let m : ℕ = b - suc a in
      let sum : suc a + m ≡ b = omega (arith, less) in
      let behind = drop (suc a) row in
      let last : block_at behind m ≡ block_at row b = get_or-drop (suc a) row m [] ∙ ap (block_at row) sum in
      let one : a + 1 ≡ suc a = omega arith in
      let starts : start_of row b ≡ start_of row (suc a) + start_of behind m = ap (start_of row) (sym sum) ∙ start_of-parts row (suc a) m in
      let next : start_of row (suc a) ≡ start_of row a + length first = ap (start_of row) (sym one) ∙ start_of-next row a within in
      let many : start_of row b + j - (start_of row a + i) ≡ length (drop i first) + (start_of behind m + j) = omega (arith, starts, next, long, small_i) in
      let right : slice_range (line row) (start_of row a + i) (start_of row b + j) ≡ drop i first ++ (line (take m behind) ++ take j (block_at row b)) =
      ap (λ (n : ℕ). take n (drop (start_of row a + i) (line row))) many
      ∙ ap (λ (q : List E). take (length (drop i first) + (start_of behind m + j)) (drop (start_of row a + i) q)) (line_parts row a within)
      ∙ ap (λ (q : List E). take (length (drop i first) + (start_of behind m + j)) q) (drop-append-add (line (take a row)) (first ++ rest) i)
      ∙ ap (λ (q : List E). take (length (drop i first) + (start_of behind m + j)) q) (drop-append-le i first rest small_i)
      ∙ take-append-add (drop i first) rest (start_of behind m + j)
      ∙ ap (λ (q : List E). drop i first ++ q) (take_to behind m j (omega (arith, length-drop (suc a) row, sum, le)) (omega (arith, ap length last, small_j)))
      ∙ ap (λ (q : List E). drop i first ++ (line (take m behind) ++ take j q)) last in
      let left : slice_range first i (length first) ≡ drop i first = take_all (length first - i) (drop i first) (omega (arith, long)) in
      let middle : slice_range row (a + 1) b ≡ take m behind = ap (λ (n : ℕ). take (b - n) (drop n row)) one in
      let whole : j - 0 ≡ j = omega arith in
      ap (λ (q : List E). q ++ (line (slice_range row (a + 1) b) ++ slice_range (block_at row b) 0 j)) left
      ∙ ap (λ (q : List (List E)). drop i first ++ (line q ++ slice_range (block_at row b) 0 j)) middle
      ∙ ap (λ (n : ℕ). drop i first ++ (line (take m behind) ++ take n (block_at row b))) whole
      ∙ sym right

take_le : {X : Type 0} (n : ℕ) (xs : List X) → length (take n xs) ≤ length xs
take_le zero xs = omega arith
take_le (suc n) [] = omega arith
take_le (suc n) (x ∷ xs) = omega (arith, take_le n xs)

pub range_le : {X : Type 0} (xs : List X) (i j : ℕ) → length (slice_range xs i j) ≤ length xs
range_le xs i j = omega (arith, take_le (j - i) (drop i xs), length-drop i xs)
