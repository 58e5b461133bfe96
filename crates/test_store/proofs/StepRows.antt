-- Worked rows of the steps: what each may return, and outcomes that it may not have.
use Rattle.std.specs.Prelude.{◌≡◌, ℕ, ◌==◌, zero, suc, Bool, true, false, List, [], ◌∷◌, ◌++◌, length, Some, None}
use Rattle.std.proofs.Common.{refl, ap, arith, get_or}
use Rattle.std.proofs.lemmas.List.Sorted.{IsPermutation-refl, length_permutation}
use Rattle.iddqd_store.proofs.BagLemmas.Exchanges.{IsPermutation-flip}
use Rattle.test_store.proofs.BagRows.{Item, pairs, m2}
use Rattle.iddqd_commands.specs.Reply.{done, duplicate, displaced, found, present, taken, memory, refused, size, items, kept, key, absent, absent_data}
use Rattle.iddqd_store.specs.Map.State.{State, FitsOnTheWay, empty_state}
use Rattle.iddqd_commands.specs.Step.{Fits, InsertsUnique, InsertsOverwrite, Gets, Tells, Removes, Reserves, ShrinksTo, Clears, Sizes, Lists}
use Rattle.iddqd_commands.specs.Step.{Extends, EntryInserts, EntryRemoves, OrInserts, Replaces, Sets}

-- these items, in a map in which this many fit
abbrev pub state : List Item → ℕ → State Item
state xs room = record { items = xs; capacity = room }

abbrev third : Item
third = (3, 30, 300)

abbrev with_third : List Item
with_third = third ∷ m2

empty_fits : Fits (empty_state {T = Item})
empty_fits = (omega arith, omega arith)

two_fit : Fits (state m2 2)
two_fit = (omega arith, omega arith)

two_do_not_fit_in_one : Fits (state m2 1) → ⊥
two_do_not_fit_in_one fits = omega (arith, fits.0)

-- an insert without conflict
goes_in : InsertsUnique {D = ℕ} pairs (state m2 7) third done (state with_third 7)
goes_in = (refl, IsPermutation-refl with_third, omega arith, λ room. refl)

goes_in_and_grows : InsertsUnique {D = ℕ} pairs (state m2 2) third done (state with_third 7)
goes_in_and_grows = (refl, IsPermutation-refl with_third, omega arith, λ room. omega (arith, room))

no_growth_below_capacity : InsertsUnique {D = ℕ} pairs (state m2 7) third done (state with_third 14) → ⊥
no_growth_below_capacity step = omega (arith, step.3 (omega arith))

no_loss_of_room : InsertsUnique {D = ℕ} pairs (state m2 2) third done (state with_third 1) → ⊥
no_loss_of_room step = omega (arith, step.2)

comes_back_for_memory : InsertsUnique {D = ℕ} pairs (state m2 2) third (memory third) (state m2 2)
comes_back_for_memory = (refl, refl, refl, refl)

no_want_of_memory_below_capacity : InsertsUnique {D = ℕ} pairs (state m2 7) third (memory third) (state m2 7) → ⊥
no_want_of_memory_below_capacity step = omega (arith, step.2)

nothing_else_is_dropped : InsertsUnique {D = ℕ} pairs (state m2 7) third done (state (third ∷ []) 7) → ⊥
nothing_else_is_dropped step = omega (arith, length_permutation _ _ step.1)

-- an insert with a conflict
one_conflicts : InsertsUnique {D = ℕ} pairs (state m2 7) (1, 99, 0) (duplicate (1, 99, 0) ((1, 10, 100) ∷ [])) (state m2 7)
one_conflicts = (refl, (λ none. omega (arith, ap length none)), refl, refl)

two_conflict : InsertsUnique {D = ℕ} pairs (state m2 2) (2, 10, 5) (duplicate (2, 10, 5) ((2, 20, 200) ∷ (1, 10, 100) ∷ [])) (state m2 2)
two_conflict = (refl, (λ none. omega (arith, ap length none)), refl, refl)

not_in_another_order : InsertsUnique {D = ℕ} pairs (state m2 2) (2, 10, 5) (duplicate (2, 10, 5) ((1, 10, 100) ∷ (2, 20, 200) ∷ [])) (state m2 2) → ⊥
not_in_another_order step = cc (step.2)

not_beside_a_conflict : (new : State Item) → InsertsUnique {D = ℕ} pairs (state m2 7) (1, 99, 0) done new → ⊥
not_beside_a_conflict new step = omega (arith, ap length step.0)

-- if something conflicts, no memory is requested
no_want_of_memory_at_a_conflict : InsertsUnique {D = ℕ} pairs (state m2 2) (1, 99, 0) (memory (1, 99, 0)) (state m2 2) → ⊥
no_want_of_memory_at_a_conflict step = omega (arith, ap length step.1)

-- an overwrite
displaces_two : InsertsOverwrite {D = ℕ} pairs (state m2 2) (1, 20, 300) (displaced m2) (state ((1, 20, 300) ∷ []) 2)
displaces_two = (refl, IsPermutation-refl _, omega arith, (λ room. refl), λ some. refl)

displaces_one_once : InsertsOverwrite {D = ℕ} pairs (state ((1, 10, 100) ∷ []) 7) (1, 10, 101) (displaced ((1, 10, 100) ∷ [])) (state ((1, 10, 101) ∷ []) 7)
displaces_one_once = (refl, IsPermutation-refl _, omega arith, (λ room. refl), λ some. refl)

displaces_nothing : InsertsOverwrite {D = ℕ} pairs (state m2 2) third (displaced []) (state with_third 7)
displaces_nothing = (refl, IsPermutation-refl _, omega arith, (λ room. omega (arith, room)), λ some. absurd (some refl))

no_growth_where_it_displaces : InsertsOverwrite {D = ℕ} pairs (state m2 2) (1, 20, 300) (displaced m2) (state ((1, 20, 300) ∷ []) 7) → ⊥
no_growth_where_it_displaces step = omega (arith, step.4 (λ none. omega (arith, ap length none)))

no_want_of_memory_where_it_displaces : InsertsOverwrite {D = ℕ} pairs (state m2 2) (1, 20, 300) (memory (1, 20, 300)) (state m2 2) → ⊥
no_want_of_memory_where_it_displaces step = omega (arith, ap length step.1)

-- lookups
found_by_first_key : Gets {D = ℕ} (state m2 7) (λ x. x.0 == 1) (found (Some (1, 10, 100))) (state m2 7)
found_by_first_key = (refl, refl)

found_by_second_key : Gets {D = ℕ} (state m2 7) (λ x. x.1 == 20) (found (Some (2, 20, 200))) (state m2 7)
found_by_second_key = (refl, refl)

not_found : Gets {D = ℕ} (state m2 7) (λ x. x.0 == 9) (found None) (state m2 7)
not_found = (refl, refl)

not_missed : Gets {D = ℕ} (state m2 7) (λ x. x.0 == 1) (found None) (state m2 7) → ⊥
not_missed step = omega (arith, ap length step.0)

is_there : Tells {D = ℕ} (state m2 7) (λ x. x.1 == 10) (present true) (state m2 7)
is_there = (refl, refl)

is_not_there : Tells {D = ℕ} (state m2 7) (λ x. x.1 == 99) (present false) (state m2 7)
is_not_there = (refl, refl)

not_said_to_be_there : Tells {D = ℕ} (state m2 7) (λ x. x.1 == 99) (present true) (state m2 7) → ⊥
not_said_to_be_there step = cc (step.0)

-- a removal
taken_out : Removes {D = ℕ} (state m2 2) (λ x. x.1 == 10) (taken (Some (1, 10, 100))) (state ((2, 20, 200) ∷ []) 2)
taken_out = (refl, IsPermutation-refl m2, refl)

none_taken_out : Removes {D = ℕ} (state m2 2) (λ x. x.1 == 99) (taken None) (state m2 2)
none_taken_out = (refl, IsPermutation-refl m2, refl)

not_left_in : Removes {D = ℕ} (state m2 2) (λ x. x.1 == 10) (taken (Some (1, 10, 100))) (state m2 2) → ⊥
not_left_in step = omega (arith, length_permutation _ _ step.1)

no_room_given_back : Removes {D = ℕ} (state m2 2) (λ x. x.1 == 10) (taken (Some (1, 10, 100))) (state ((2, 20, 200) ∷ []) 1) → ⊥
no_room_given_back step = omega (arith, step.2)

-- reserving
room_is_there : Reserves {D = ℕ} (state m2 7) 5 done (state m2 7)
room_is_there = (refl, omega arith, omega arith, λ room. refl)

room_is_made : Reserves {D = ℕ} (state m2 7) 6 done (state m2 14)
room_is_made = (refl, omega arith, omega arith, λ room. omega (arith, room))

room_is_refused : Reserves {T = Item} {D = ℕ} (state m2 7) 6 refused (state m2 7)
room_is_refused = (omega arith, refl)

not_refused_where_room_is_there : (new : State Item) → Reserves {D = ℕ} (state m2 7) 5 refused new → ⊥
not_refused_where_room_is_there new step = omega (arith, step.0)

not_refused_with_the_room_made : Reserves {D = ℕ} (state m2 7) 6 refused (state m2 14) → ⊥
not_refused_with_the_room_made step = let same = ap (λ (s : State Item). s.capacity) step.1 in omega (arith, same)

not_refused_with_some_room_made : Reserves {D = ℕ} (state m2 7) 60 refused (state m2 14) → ⊥
not_refused_with_some_room_made step = let same = ap (λ (s : State Item). s.capacity) step.1 in omega (arith, same)

not_granted_without_room : Reserves {D = ℕ} (state m2 7) 6 done (state m2 7) → ⊥
not_granted_without_room step = omega (arith, step.1)

no_growth_where_room_is_there : Reserves {D = ℕ} (state m2 7) 5 done (state m2 14) → ⊥
no_growth_where_room_is_there step = omega (arith, step.3 (omega arith))

-- shrinking
shrinks : ShrinksTo {D = ℕ} (state m2 100) 10 done (state m2 10)
shrinks = (refl, refl)

shrinks_to_fit : ShrinksTo {D = ℕ} (state m2 10) 0 done (state m2 2)
shrinks_to_fit = (refl, refl)

never_makes_room : ShrinksTo {D = ℕ} (state m2 7) 10 done (state m2 7)
never_makes_room = (refl, refl)

empty_shrinks_to_nothing : ShrinksTo {T = Item} {D = ℕ} (state [] 7) 0 done empty_state
empty_shrinks_to_nothing = (refl, refl)

not_kept_all_the_room : ShrinksTo {D = ℕ} (state m2 100) 0 done (state m2 100) → ⊥
not_kept_all_the_room step = omega (arith, step.1)

nothing_to_refuse : (new : State Item) → ShrinksTo {D = ℕ} (state [] 7) 0 refused new → ⊥
nothing_to_refuse new step = omega (arith, step.0)

nothing_to_give_back : (new : State Item) → ShrinksTo {D = ℕ} (state m2 7) 10 refused new → ⊥
nothing_to_give_back new step = step.1 refl

-- clearing, counting, listing
cleared : Clears {D = ℕ} (state m2 7) done (state [] 7)
cleared = (refl, refl)

room_stays_when_cleared : Clears {D = ℕ} (state m2 7) done (state [] 0) → ⊥
room_stays_when_cleared step = omega (arith, step.1)

counted : Sizes {D = ℕ} (state m2 7) (size 2) (state m2 7)
counted = (refl, refl)

not_the_capacity : Sizes {D = ℕ} (state m2 7) (size 7) (state m2 7) → ⊥
not_the_capacity step = omega (arith, step.0)

listed : Lists {D = ℕ} (state m2 7) (items ((2, 20, 200) ∷ (1, 10, 100) ∷ [])) (state m2 7)
listed = (IsPermutation-flip (2, 20, 200) (1, 10, 100) [], refl)

none_left_out : Lists {D = ℕ} (state m2 7) (items ((2, 20, 200) ∷ [])) (state m2 7) → ⊥
none_left_out step = omega (arith, length_permutation _ _ step.0)

-- extending: (3, 20, 0) replaces the items that have its keys by then
abbrev two_more : List Item
two_more = third ∷ (3, 20, 0) ∷ []

abbrev extended : List Item
extended = (3, 20, 0) ∷ (1, 10, 100) ∷ []

three_on_the_way : FitsOnTheWay pairs m2 two_more 3
three_on_the_way zero = omega arith
three_on_the_way (suc zero) = omega arith
three_on_the_way (suc (suc zero)) = omega arith
three_on_the_way (suc (suc (suc n))) = omega arith

extends : Extends {D = ℕ} pairs (state m2 2) two_more done (state extended 3)
extends = (
  record { items = IsPermutation-refl extended; fits_on_the_way = three_on_the_way; no_less_room = omega arith; most = omega arith },
  λ room. omega (arith, room),
)

-- after the first item of the list there are three
not_in_room_for_two : Extends {D = ℕ} pairs (state m2 2) two_more done (state extended 2) → ⊥
not_in_room_for_two step = omega (arith, step.0.fits_on_the_way 1)

-- whatever an iterator promises
no_room_for_many_more : Extends {D = ℕ} pairs (state m2 2) two_more done (state extended 200000) → ⊥
no_room_for_many_more step = omega (arith, step.0.most)

no_growth_where_all_fit : Extends {D = ℕ} pairs (state m2 7) two_more done (state extended 14) → ⊥
no_growth_where_all_fit step = omega (arith, step.1 (omega arith))

ends_at_an_item_without_memory : Extends {D = ℕ} pairs (state m2 2) two_more (memory third) (state m2 2)
ends_at_an_item_without_memory =
    ([], (3, 20, 0) ∷ [], refl, record { items = IsPermutation-refl m2; fits_on_the_way = λ n. nothing_yet n; no_less_room = omega arith; most = omega arith }, refl, refl)
  where
    nothing_yet : FitsOnTheWay pairs m2 [] 2
    nothing_yet zero = omega arith
    nothing_yet (suc n) = omega arith

-- the second item conflicts with the first, so it needs no room
not_for_an_item_that_displaces : (new : State Item) → Extends {D = ℕ} pairs (state m2 2) (third ∷ []) (memory (3, 20, 0)) new → ⊥
not_for_an_item_that_displaces new step = nowhere step.0 step.1 step.2
  where
    nowhere : (front rest : List Item) → third ∷ [] ≡ front ++ (3, 20, 0) ∷ rest → ⊥
    nowhere [] rest e = omega (arith, ap (λ (l : List Item). (get_or l 0 third).1) e)
    nowhere (x ∷ []) rest e = omega (arith, ap length e)
    nowhere (x ∷ y ∷ front) rest e = omega (arith, ap length e)

-- an entry, whether or not an item has the first key, and the second
abbrev keyed : ℕ → ℕ → List (Item → Bool)
keyed a b = (λ x. x.0 == a) ∷ (λ x. x.1 == b) ∷ []

-- the second key is free, and (1, 99, 7) replaces the item of the first
goes_in_by_an_entry : EntryInserts {D = ℕ} pairs (keyed 1 99) (state m2 2) (1, 99, 7) (displaced ((1, 10, 100) ∷ [])) (state ((1, 99, 7) ∷ (2, 20, 200) ∷ []) 2)
goes_in_by_an_entry = (refl, (refl, IsPermutation-refl _, omega arith, (λ room. refl), λ some. refl))

goes_in_by_an_entry_for_two : EntryInserts {D = ℕ} pairs (keyed 1 20) (state m2 2) (1, 20, 300) (displaced m2) (state ((1, 20, 300) ∷ []) 2)
goes_in_by_an_entry_for_two = (refl, (refl, IsPermutation-refl _, omega arith, (λ room. refl), λ some. refl))

goes_in_by_a_vacant_entry : EntryInserts {D = ℕ} pairs (keyed 3 30) (state m2 2) third (displaced []) (state with_third 7)
goes_in_by_a_vacant_entry = (refl, (refl, IsPermutation-refl _, omega arith, (λ room. omega (arith, room)), λ some. absurd (some refl)))

-- it is rejected though no item has the second key asked for
another_second_key : EntryInserts {D = ℕ} pairs (keyed 1 99) (state m2 2) (1, 98, 0) (key 1 (1, 98, 0)) (state m2 2)
another_second_key = (refl, refl, refl)

not_another_first_key : EntryInserts {D = ℕ} pairs (keyed 1 99) (state m2 2) (1, 98, 0) (key 0 (1, 98, 0)) (state m2 2) → ⊥
not_another_first_key step = cc (step.0)

not_by_other_keys : (ys : List Item) (new : State Item) → EntryInserts {D = ℕ} pairs (keyed 1 99) (state m2 2) (1, 98, 0) (displaced ys) new → ⊥
not_by_other_keys ys new step = cc (step.0)

memory_behind_a_vacant_entry : EntryInserts {D = ℕ} pairs (keyed 3 30) (state m2 2) third (memory third) (state m2 2)
memory_behind_a_vacant_entry = (refl, (refl, refl, refl, refl))

no_want_of_memory_behind_an_occupied_entry : EntryInserts {D = ℕ} pairs (keyed 1 99) (state m2 2) (1, 99, 7) (memory (1, 99, 7)) (state m2 2) → ⊥
no_want_of_memory_behind_an_occupied_entry step = omega (arith, ap length step.1.1)

both_taken_out : EntryRemoves {D = ℕ} (keyed 2 10) (state m2 2) (displaced ((2, 20, 200) ∷ (1, 10, 100) ∷ [])) (state [] 2)
both_taken_out = (refl, IsPermutation-flip (1, 10, 100) (2, 20, 200) [], refl)

nothing_taken_out : EntryRemoves {D = ℕ} (keyed 5 50) (state m2 2) (displaced []) (state m2 2)
nothing_taken_out = (refl, IsPermutation-refl m2, refl)

not_left_in_by_an_entry : EntryRemoves {D = ℕ} (keyed 1 99) (state m2 2) (displaced ((1, 10, 100) ∷ [])) (state m2 2) → ⊥
not_left_in_by_an_entry step = omega (arith, length_permutation _ _ step.1)

no_item_forgotten : (new : State Item) → EntryRemoves {D = ℕ} (keyed 1 99) (state m2 2) (displaced []) new → ⊥
no_item_forgotten new step = omega (arith, ap length step.0)

-- an item if there is none
kept_where_one_is : OrInserts {D = ℕ} pairs (keyed 1 99) (state m2 2) (8, 8, 8) kept (state m2 2)
kept_where_one_is = ((λ none. omega (arith, ap length none)), refl)

not_kept_where_none_is : OrInserts {D = ℕ} pairs (keyed 3 30) (state m2 7) third kept (state m2 7) → ⊥
not_kept_where_none_is step = step.0 refl

goes_in_where_none_is : OrInserts {D = ℕ} pairs (keyed 3 30) (state m2 7) third done (state with_third 7)
goes_in_where_none_is = (refl, refl, (refl, IsPermutation-refl with_third, omega arith, λ room. refl))

not_where_one_is : (new : State Item) → OrInserts {D = ℕ} pairs (keyed 1 99) (state m2 7) (1, 99, 7) done new → ⊥
not_where_one_is new step = omega (arith, ap length step.0)

another_first_key : OrInserts {D = ℕ} pairs (keyed 5 50) (state m2 7) (6, 50, 0) (key 0 (6, 50, 0)) (state m2 7)
another_first_key = (refl, refl, refl, refl)

no_key_told_where_one_is : OrInserts {D = ℕ} pairs (keyed 1 99) (state m2 7) (8, 8, 8) (key 0 (8, 8, 8)) (state m2 7) → ⊥
no_key_told_where_one_is step = omega (arith, ap length step.0)

memory_where_none_is : OrInserts {D = ℕ} pairs (keyed 3 30) (state m2 2) third (memory third) (state m2 2)
memory_where_none_is = (refl, refl, (refl, refl, refl, refl))

-- another item under the same keys
replaced : Replaces {D = ℕ} pairs (λ x. x.1 == 10) (state m2 2) (1, 10, 7) (displaced ((1, 10, 100) ∷ [])) (state ((1, 10, 7) ∷ (2, 20, 200) ∷ []) 2)
replaced = ((1, 10, 100), refl, refl, refl, IsPermutation-refl _, refl)

not_replaced_under_other_keys : Replaces {D = ℕ} pairs (λ x. x.0 == 1) (state m2 2) (1, 11, 0) (key 1 (1, 11, 0)) (state m2 2)
not_replaced_under_other_keys = ((1, 10, 100), refl, refl, refl, refl)

none_to_replace : Replaces {D = ℕ} pairs (λ x. x.0 == 3) (state m2 2) third (absent third) (state m2 2)
none_to_replace = (refl, refl, refl)

not_absent_where_one_is : Replaces {D = ℕ} pairs (λ x. x.0 == 1) (state m2 2) (1, 10, 7) (absent (1, 10, 7)) (state m2 2) → ⊥
not_absent_where_one_is step = omega (arith, ap length step.0)

no_other_given_back : (new : State Item) → Replaces {D = ℕ} pairs (λ x. x.0 == 1) (state m2 2) (1, 10, 7) (displaced []) new → ⊥
no_other_given_back new step = omega (arith, ap length step.2)

-- other data under the same keys
abbrev valued : Item → ℕ → Item
valued x v = (x.0, x.1, v)

set : Sets pairs valued (λ x. x.0 == 1) (state m2 2) 8 done (state ((1, 10, 8) ∷ (2, 20, 200) ∷ []) 2)
set = ((1, 10, 100), refl, IsPermutation-refl _, refl)

none_to_set : Sets pairs valued (λ x. x.0 == 3) (state m2 2) 8 (absent_data 8) (state m2 2)
none_to_set = (refl, refl, refl)

not_set_where_none_is : (new : State Item) → Sets pairs valued (λ x. x.0 == 3) (state m2 2) 8 done new → ⊥
not_set_where_none_is new step = omega (arith, ap length step.1)

not_handed_back_where_one_is : Sets pairs valued (λ x. x.0 == 1) (state m2 2) 8 (absent_data 8) (state m2 2) → ⊥
not_handed_back_where_one_is step = omega (arith, ap length step.0)
