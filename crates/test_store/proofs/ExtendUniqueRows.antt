-- Worked rows of `ExtendsUnique`: what it may return, and outcomes that it may not have.
use Rattle.std.specs.Prelude.{◌≡◌, ℕ, List, [], ◌∷◌, length, Ok, Err, Result}
use Rattle.std.proofs.Common.{refl, ap, arith, get_or}
use Rattle.std.proofs.lemmas.List.Sorted.{IsPermutation-refl, length_permutation}
use Rattle.iddqd_store.proofs.BagLemmas.Building.{IsSound-adds}
use Rattle.test_store.proofs.BagRows.{Item, pairs, m2}
use Rattle.iddqd_store.proofs.BagLemmas.Steps.{IsSound-nil}
use Rattle.test_store.proofs.StepRows.{state}
use Rattle.iddqd_store.specs.Bag.{IsSound, adds}
use Rattle.iddqd_commands.specs.Reply.{done, extend_refused}
use Rattle.iddqd_store.specs.Map.State.{State}
use Rattle.iddqd_commands.specs.Step.{ExtendsUnique}
use Rattle.iddqd_store.specs.declared.error.InsertReason.TheVariants.{Duplicate, Memory}

-- the first and the second of these conflict with each other
abbrev alike : List Item
alike = (3, 30, 0) ∷ (4, 30, 0) ∷ (5, 50, 0) ∷ []

abbrev apart : List Item
apart = (10, 1, 0) ∷ (20, 2, 0) ∷ []

-- the second of these conflicts with none, and the third conflicts with the first
abbrev late : List Item
late = (3, 30, 0) ∷ (6, 60, 0) ∷ (4, 30, 0) ∷ []

sound_by : (xs made : List Item) → adds pairs [] xs ≡ Ok made → IsSound pairs made
sound_by xs made is = IsSound-adds pairs [] xs made (IsSound-nil pairs) is

sound_m2 : IsSound pairs m2
sound_m2 = sound_by ((2, 20, 200) ∷ (1, 10, 100) ∷ []) m2 refl

sound_with_third : IsSound pairs ((3, 30, 0) ∷ m2)
sound_with_third = sound_by ((2, 20, 200) ∷ (1, 10, 100) ∷ (3, 30, 0) ∷ []) ((3, 30, 0) ∷ m2) refl

-- how many items there are after an addition, or `None` if it failed
abbrev count : Result (List Item) (Item × List Item) → ℕ
count (Ok made) = length made
count (Err refusal) = 0

abbrev granted : Result (List Item) (Item × List Item) → ℕ
granted (Ok made) = 1
granted (Err refusal) = 0

-- granted
all_go_in : ExtendsUnique {D = ℕ} pairs (state m2 7) apart done (state ((20, 2, 0) ∷ (10, 1, 0) ∷ m2) 7)
all_go_in = (
  ((20, 2, 0) ∷ (10, 1, 0) ∷ m2, refl, IsPermutation-refl _),
  sound_by ((2, 20, 200) ∷ (1, 10, 100) ∷ apart) ((20, 2, 0) ∷ (10, 1, 0) ∷ m2) refl,
  (omega arith, λ room. refl),
)

nothing_goes_in : ExtendsUnique {D = ℕ} pairs (state m2 7) [] done (state m2 7)
nothing_goes_in = ((m2, refl, IsPermutation-refl m2), sound_m2, (omega arith, λ room. refl))

not_all_but_one : ExtendsUnique {D = ℕ} pairs (state m2 7) apart done (state ((10, 1, 0) ∷ m2) 7) → ⊥
not_all_but_one step = omega (arith, length_permutation _ _ step.0.2, ap count step.0.1)

no_growth_where_all_fit : ExtendsUnique {D = ℕ} pairs (state m2 7) apart done (state ((20, 2, 0) ∷ (10, 1, 0) ∷ m2) 14) → ⊥
no_growth_where_all_fit step = omega (arith, step.2.1 (omega arith))

not_where_two_are_alike : (new : State Item) → ExtendsUnique {D = ℕ} pairs (state m2 7) alike done new → ⊥
not_where_two_are_alike new step = omega (arith, ap granted step.0.1)

-- refused
alike_come_back : ExtendsUnique {D = ℕ} pairs (state m2 7) alike (extend_refused Duplicate ((3, 30, 0) ∷ []) (4, 30, 0)) (state m2 7)
alike_come_back =
    ((5, 50, 0) ∷ [], refl, IsPermutation-refl m2, sound_with_third, (λ none. omega (arith, ap length none)), (omega arith, λ room. refl))

first_conflicts : ExtendsUnique {D = ℕ} pairs (state m2 2) ((1, 60, 0) ∷ (5, 50, 0) ∷ []) (extend_refused Duplicate [] (1, 60, 0)) (state m2 2)
first_conflicts = ((5, 50, 0) ∷ [], refl, IsPermutation-refl m2, sound_m2, (λ none. omega (arith, ap length none)), (omega arith, λ room. refl))

comes_back_for_memory : ExtendsUnique {D = ℕ} pairs (state m2 2) apart (extend_refused Memory [] (10, 1, 0)) (state m2 7)
comes_back_for_memory = ((20, 2, 0) ∷ [], refl, IsPermutation-refl m2, sound_m2, refl, (omega arith, λ room. omega (arith, room)))

none_left_in : ExtendsUnique {D = ℕ} pairs (state m2 7) alike (extend_refused Duplicate ((3, 30, 0) ∷ []) (4, 30, 0)) (state ((3, 30, 0) ∷ m2) 7) → ⊥
none_left_in step = omega (arith, length_permutation _ _ step.2)

none_taken_out_that_was_there : ExtendsUnique {D = ℕ} pairs (state m2 7) alike (extend_refused Duplicate ((3, 30, 0) ∷ []) (4, 30, 0)) (state ((1, 10, 100) ∷ []) 7) → ⊥
none_taken_out_that_was_there step = omega (arith, length_permutation _ _ step.2)

no_want_of_memory_at_a_conflict : (new : State Item) → ExtendsUnique {D = ℕ} pairs (state m2 2) alike (extend_refused Memory ((3, 30, 0) ∷ []) (4, 30, 0)) new → ⊥
no_want_of_memory_at_a_conflict new step = omega (arith, ap length step.4)

no_conflict_where_there_is_none : (new : State Item) → ExtendsUnique {D = ℕ} pairs (state m2 2) apart (extend_refused Duplicate [] (10, 1, 0)) new → ⊥
no_conflict_where_there_is_none new step = step.4 refl

not_in_another_order : (new : State Item) → ExtendsUnique {D = ℕ} pairs (state m2 7) late (extend_refused Duplicate ((6, 60, 0) ∷ (3, 30, 0) ∷ []) (4, 30, 0)) new → ⊥
not_in_another_order new step = omega (arith, ap (λ (l : List Item). (get_or l 0 (0, 0, 0)).0) step.1)

none_passed_over : (new : State Item) → ExtendsUnique {D = ℕ} pairs (state m2 7) late (extend_refused Duplicate ((3, 30, 0) ∷ []) (4, 30, 0)) new → ⊥
none_passed_over new step = omega (arith, ap (λ (l : List Item). (get_or l 1 (0, 0, 0)).0) step.1)

no_room_lost : ExtendsUnique {D = ℕ} pairs (state m2 7) alike (extend_refused Duplicate ((3, 30, 0) ∷ []) (4, 30, 0)) (state m2 2) → ⊥
no_room_lost step = omega (arith, step.5.0)
