-- Worked rows of full places, stretches, probes and limits. A call that finds nothing probes one cell more than the
-- stretch.
use Rattle.std.proofs.Common.{◌≡◌, ℕ, ◌+◌, ◌*◌, ◌^◌, ◌<◌, ◌≤◌, List, [], ◌∷◌, Option, None, Some, true, false, refl, arith, inl, inr}
use Rattle.std.proofs.Math.Pow.{pow_mono}
use Rattle.std.specs.Prelude.{map}
use Rattle.std.specs.List.{range_with_len}
use Rattle.iddqd_store.proofs.TableLemmas.Probes.{probes_most}
use Rattle.iddqd_store.proofs.TableLemmas.StretchBound.{stretch_le_length}
use Rattle.iddqd_store.proofs.TableLemmas.Limits.{least_found}
use Rattle.iddqd_store.specs.Table.Limit.{IsLeast}
use Rattle.iddqd_store.specs.Table.Ring.{is_full, stretch}
use Rattle.iddqd_store.specs.Table.{Probes, ProbesWithin}

-- 6, 6, 7 and 0 among 8 cells
full_6670 : map (is_full (6 ∷ 6 ∷ 7 ∷ 0 ∷ []) 8) (range_with_len 0 8) ≡ true ∷ true ∷ false ∷ false ∷ false ∷ false ∷ true ∷ true ∷ []
full_6670 = refl

stretch_6670 : stretch (6 ∷ 6 ∷ 7 ∷ 0 ∷ []) 8 6 ≡ 4
stretch_6670 = refl

-- 6, 7 and 6
full_676 : map (is_full (6 ∷ 7 ∷ 6 ∷ []) 8) (range_with_len 0 8) ≡ true ∷ false ∷ false ∷ false ∷ false ∷ false ∷ true ∷ true ∷ []
full_676 = refl

stretch_676 : stretch (6 ∷ 7 ∷ 6 ∷ []) 8 6 ≡ 3
stretch_676 = refl

-- 1 and 2, and a search for 9
stretch_12 : stretch (1 ∷ 2 ∷ []) 8 9 ≡ 2
stretch_12 = refl

-- 1 and 9 among 16 cells
stretch_19 : stretch (1 ∷ 9 ∷ []) 16 9 ≡ 1
stretch_19 = refl

-- probes of a removal: one more than the stretch
removal_6670 : stretch (6 ∷ 6 ∷ 7 ∷ 0 ∷ []) 8 6 + 1 ≡ 5
removal_6670 = refl

removal_676 : stretch (6 ∷ 7 ∷ 6 ∷ []) 8 6 + 1 ≡ 4
removal_676 = refl

-- probes of a search
three_probes : Probes {A = ℕ} (1 ∷ 2 ∷ []) 8 9 None 0 3
three_probes = record { no_cells = λ none. absurd (omega (arith, none)); miss = λ some. refl; hit_least = tt; hit_most = tt }

always_three_probes : (before after : ℕ) → Probes {A = ℕ} (1 ∷ 2 ∷ []) 8 9 None before after → after ≡ before + 3
always_three_probes before after probes = omega (arith, probes.miss (omega arith))

no_probes_without_cells : (hashes : List ℕ) (hash before after : ℕ) (answer : Option ℕ) → Probes hashes 0 hash answer before after → after ≡ before
no_probes_without_cells hashes hash before after answer probes = probes.no_cells refl

no_answer_without_cells : (hashes : List ℕ) (hash before after found : ℕ) → Probes hashes 0 hash (Some found) before after → ⊥
no_answer_without_cells hashes hash before after found probes = omega (arith, probes.no_cells refl, probes.hit_least)

found_in_the_fourth_cell : Probes {A = ℕ} (6 ∷ 6 ∷ 7 ∷ 0 ∷ []) 8 6 (Some 1) 0 4
found_in_the_fourth_cell = record { no_cells = λ none. absurd (omega (arith, none)); miss = λ some. tt; hit_least = omega arith; hit_most = omega arith }

not_found_past_the_stretch : Probes {A = ℕ} (6 ∷ 6 ∷ 7 ∷ 0 ∷ []) 8 6 (Some 1) 0 5 → ⊥
not_found_past_the_stretch probes = omega (arith, probes.hit_most)

not_found_without_a_probe : Probes {A = ℕ} (6 ∷ 6 ∷ 7 ∷ 0 ∷ []) 8 6 (Some 1) 0 0 → ⊥
not_found_without_a_probe probes = omega (arith, probes.hit_least)

-- probes of a search in a map with room for this many items
three_probes_within : ProbesWithin {A = ℕ} (1 ∷ 2 ∷ []) 7 9 None 0 3
three_probes_within = (8, inr (0, refl), omega arith, omega arith, three_probes)

no_fourth_probe_within : ProbesWithin {A = ℕ} (1 ∷ 2 ∷ []) 7 9 None 0 4 → ⊥
no_fourth_probe_within within = omega (arith, probes_most {A = ℕ} (1 ∷ 2 ∷ []) within.0 9 None 0 4 within.4)

a_probe_at_least_within : ProbesWithin {A = ℕ} (1 ∷ 2 ∷ []) 7 9 None 0 0 → ⊥
a_probe_at_least_within within =
    let some : 0 < within.0 = omega (arith, within.3) in
    omega (arith, within.4.miss some)

no_answer_among_none_within : (hash before after found : ℕ) → ProbesWithin [] 0 hash (Some found) before after → ⊥
no_answer_among_none_within hash before after found within = omega (arith, stretch_le_length [] within.0 hash, within.4.hit_least, within.4.hit_most)

-- the least limit in which this many pairs fit
least_of_none : IsLeast 0 0
least_of_none = record { limit = inl refl; enough = omega arith; least = λ j l h. omega arith }

least_of_1 : IsLeast 1 7
least_of_1 = least_found 1 0 8 (omega arith) refl (omega arith) (λ j below. absurd (omega (arith, below)))

least_of_7 : IsLeast 7 7
least_of_7 = least_found 7 0 8 (omega arith) refl (omega arith) (λ j below. absurd (omega (arith, below)))

-- no smaller power of two is enough, since the next smaller one is not
smaller : (k m : ℕ) → 7 * 2 ^ k < m → (j : ℕ) → j < k + 1 → 7 * 2 ^ j < m
smaller k m short j below =
    let up_to : j ≤ k = omega (arith, below) in
    let less : 2 ^ j ≤ 2 ^ k = pow_mono up_to in
    omega (arith, less, short)

least_of_8 : IsLeast 8 14
least_of_8 = least_found 8 1 16 (omega arith) refl (omega arith) (smaller 0 8 (omega arith))

least_of_15 : IsLeast 15 28
least_of_15 = least_found 15 2 32 (omega arith) refl (omega arith) (smaller 1 15 (omega arith))

least_of_56 : IsLeast 56 56
least_of_56 = least_found 56 3 64 (omega arith) refl (omega arith) (smaller 2 56 (omega arith))

least_of_57 : IsLeast 57 112
least_of_57 = least_found 57 4 128 (omega arith) refl (omega arith) (smaller 3 57 (omega arith))

not_twice_as_much : IsLeast 8 28 → ⊥
not_twice_as_much least = omega (arith, least.least 14 (inr (1, refl)) (omega arith))

not_too_little : IsLeast 8 7 → ⊥
not_too_little least = omega (arith, least.enough)
