-- Cells of a row that are copied one after the other into a larger row.
use Rattle.std.proofs.Common.{arith, ℕ, ◌≡◌, ◌+◌, ◌*◌, ◌/◌, ◌%◌, ◌<◌, ◌≤◌, List, Option, None, Some, length, set, take, replicate, ap, ◌∙◌, subst}
use Rattle.std.specs.List.Sorted.{IsPermutation}
use Rattle.std.proofs.lemmas.List.{length_push, take_all}
use Rattle.std.proofs.lemmas.List.Sorted.{IsPermutation-refl, IsPermutation-push_more, length_permutation}
use Rattle.iddqd_store.specs.Table.{IsTable, IsFirstEmpty}
use Rattle.iddqd_store.specs.Table.Limit.{IsSize}
use Rattle.iddqd_store.specs.Slots.{contents}
use Rattle.iddqd_store.specs.Table.Ring.{cell}
use Rattle.iddqd_store.proofs.TableLemmas.Limits.{held_items-empty, table_empty}
use Rattle.iddqd_store.proofs.TableLemmas.Write.{held_front, held_more, table_put}
use Rattle.iddqd_store.proofs.SlotLemmas.Contents.{contents-put}

-- the pairs of the first i cells of the old row are those of the new one
pub record HasFront (old new : List (Option (ℕ × ℕ))) (i : ℕ) : Type 0 where
  pub table : IsTable new
  pub pairs : IsPermutation (contents (take i old)) (contents new)

pub front_none : (old : List (Option (ℕ × ℕ))) (count : ℕ) → IsSize count → HasFront old (replicate count None) 0
front_none old count size = record { table = table_empty count size; pairs = rw held_items-empty (IsPermutation-refl _) }

-- a pair is copied into the first empty cell from its home on
pub front_full : (old new : List (Option (ℕ × ℕ))) (i at hash index : ℕ) → i < length old → cell old i ≡ Some (hash, index)
    → length (contents old) ≤ length new / 8 * 7 → IsFirstEmpty new (hash % length new) at
    → HasFront old new i → HasFront old (set new at (cell old i)) (i + 1)
front_full old new i at hash index l is fits f h =
    let x : ℕ × ℕ = (hash, index) in
    let more : length (contents (take (i + 1) old)) ≡ length (contents (take i old)) + 1 = ap length (held_more old i x l is) ∙ length_push (contents (take i old)) x in
    let front = held_front old (i + 1) in
    let same : length (contents new) ≡ length (contents (take i old)) = length_permutation _ _ h.pairs in
    rw is (record {
      table = table_put new at hash index h.table (omega (arith, more, front, same, fits)) f;
      pairs = rw (held_more old i x l is) (IsPermutation-push_more _ _ _ x h.pairs (contents-put new at x f.below f.empty));
    })

pub front_all : (old new : List (Option (ℕ × ℕ))) (i : ℕ) → length old ≤ i → HasFront old new i → IsPermutation (contents old) (contents new)
front_all old new i l h = subst (λ (r : List (Option (ℕ × ℕ))). IsPermutation (contents r) (contents new)) (take_all i old l) h.pairs
