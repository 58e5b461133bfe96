-- How many cells a search of a map probes.
use Rattle.std.specs.Prelude.{ℕ, ◌+◌, ◌*◌, ◌/◌, ◌^◌, ◌<◌, ◌≤◌, List, length, map, IsPermutation, Option}
use Rattle.std.proofs.Common.{sym, ap, subst, ◌∙◌, arith}
use Rattle.std.proofs.lemmas.Simd.{map-map}
use Rattle.std.proofs.lemmas.List.{length-map}
use Rattle.std.proofs.lemmas.List.Sorted.{IsPermutation-map, length_permutation}
use Rattle.iddqd_store.specs.Table.Limit.{IsSize}
use Rattle.iddqd_store.specs.Slots.{members, contents}
use Rattle.iddqd_store.specs.Rank.Index.{IsIndex, pair_of}
use Rattle.iddqd_store.specs.Table.{hashes, Probes, ProbesWithin}
use Rattle.iddqd_store.proofs.TableLemmas.Probes.{probes_permutation, probes_most}
use Rattle.iddqd_store.proofs.SlotLemmas.Contents.{contents-members}

module _ {T : Type 0} where
  pub hashes-index : (hash : T → ℕ) (slots : List (Option T)) (pairs : List (ℕ × ℕ)) → IsIndex hash slots pairs → IsPermutation (hashes pairs) (map hash (contents slots))
  hashes-index hash slots pairs index =
      subst (IsPermutation (hashes pairs))
      (map-map (λ (p : ℕ × ℕ). p.0) (pair_of hash) (members slots) ∙ sym (map-map hash (λ (m : ℕ × T). m.1) (members slots)) ∙ ap (map hash) (contents-members slots))
      (IsPermutation-map (λ (p : ℕ × ℕ). p.0) pairs (map (pair_of hash) (members slots)) index.paired)

  -- a table's search probes as many cells as one over the members' hashes
  pub probes_within : {A : Type 0} (hash : T → ℕ) (slots : List (Option T)) (pairs : List (ℕ × ℕ)) (cells room h : ℕ) (answer : Option A)
      (before after : ℕ) → IsIndex hash slots pairs → IsSize cells → cells < 2 ^ 64 → room ≤ cells / 8 * 7
      → Probes (hashes pairs) cells h answer before after → ProbesWithin (map hash (contents slots)) room h answer before after
  probes_within hash slots pairs cells room h answer before after index size counted fits probes =
      (cells, size, counted, fits, probes_permutation (hashes pairs) (map hash (contents slots)) cells h answer before after (hashes-index hash slots pairs index) probes)

  -- it probes at most one cell more than there are members
  pub probes_within_most : {A : Type 0} (hash : T → ℕ) (slots : List (Option T)) (pairs : List (ℕ × ℕ)) (cells h : ℕ) (answer : Option A)
      (before after : ℕ) → IsIndex hash slots pairs → Probes (hashes pairs) cells h answer before after → after ≤ before + length (contents slots) + 1
  probes_within_most hash slots pairs cells h answer before after index probes =
      omega (arith, probes_most (hashes pairs) cells h answer before after probes, length_permutation _ _ (hashes-index hash slots pairs index), length-map (contents slots) hash)
