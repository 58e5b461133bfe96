-- Clones of a row, block by block.
use Rattle.std.proofs.Common.{◌≡◌, ℕ, suc, ◌+◌, ◌*◌, ◌<◌, ◌≤◌, List, [], ◌∷◌, ◌++◌, length, take, ap, ◌∙◌, arith, mul-zero, mul-suc}
use Rattle.std.specs.List.{AllZip}
use Rattle.std.proofs.lemmas.List.{append-nil, length-append, take_more}
use Rattle.iddqd_order.specs.Row.{BlockValue, entry_lists, line, block_at, IsRow}
use Rattle.iddqd_order.proofs.LineLemmas.{line-append}
use Rattle.iddqd_order.proofs.IterLemmas.{line-last}

AllZip-append : {X : Type 0} (R : X → X → Type 0) (xs ys more others : List X) → AllZip R xs ys → AllZip R more others → AllZip R (xs ++ more) (ys ++ others)
AllZip-append R [] [] more others zip rest = rest
AllZip-append R [] (y ∷ ys) more others zip rest = absurd zip
AllZip-append R (x ∷ xs) [] more others zip rest = absurd zip
AllZip-append R (x ∷ xs) (y ∷ ys) more others zip rest = (zip.0, AllZip-append R xs ys more others zip.1 rest)

module _ {E : Type 0} where
  -- one more block is cloned
  pub block_cloned : (R : E → E → Type 0) (row : List (List E)) (b : ℕ) (made : List (BlockValue E)) (value : BlockValue E) → b < length row
      → AllZip R (line (take b row)) (line (entry_lists made)) → AllZip R (block_at row b) value.entries
      → AllZip R (line (take (b + 1) row)) (line (entry_lists (made ++ value ∷ [])))
  block_cloned R row b made value within zip here =
      let more : line (take (b + 1) row) ≡ line (take b row) ++ block_at row b =
      ap line (take_more row b [] within) ∙ line-append (take b row) (block_at row b ∷ []) ∙ ap (λ (q : List E). line (take b row) ++ q) (append-nil (block_at row b)) in
      rw (more, line-last made value) (AllZip-append R (line (take b row)) (line (entry_lists made)) (block_at row b) value.entries zip here)

  -- a row has no more entries than its blocks have memory for
  pub row_fits : (memory : ℕ) (row : List (List E)) → IsRow memory row → length (line row) ≤ memory * length row
  row_fits memory [] r = omega (arith, mul-zero memory)
  row_fits memory (x ∷ row) r =
      omega (arith, (r 0 (omega arith)).most, row_fits memory row (λ b lt. r (suc b) (omega arith)), length-append x (line row), mul-suc memory (length row))

-- a row of one block
pub one_block : {E : Type 0} (row : List (List E)) → length row ≡ 1 → line row ≡ block_at row 0
one_block [] one = absurd (omega (arith, one))
one_block (x ∷ []) one = append-nil x
one_block (x ∷ y ∷ row) one = absurd (omega (arith, one))
