-- worked rows, by computation
use Rattle.std.specs.Prelude.{◌≡◌, ℕ, ◌<◌, ◌==◌, ◌&&◌, zero, suc, Bool, true, filter, List, [], ◌∷◌, Some, Ok, Err}
use Rattle.iddqd_store.proofs.BagLemmas.Exchanges.{IsPermutation-flip}
use Rattle.std.proofs.Common.{refl, arith, get_or}
use Rattle.std.proofs.lemmas.Bool.{false≢true}
use Rattle.iddqd_store.proofs.BagLemmas.Same.{IsSameBag-pair, HasPair}
use Rattle.iddqd_store.specs.Bag.{Ranks, conflicting, with_item, with_items, add, adds, listing, remainder, all_of, first_mismatch, entry, vacant, unique, non_unique, agrees, swap, crowd, IsSameBag}

abbrev pub Item : Type 0
Item = ℕ × ℕ × ℕ

abbrev pub pairs : Ranks Item
pairs = (λ x y. x.0 == y.0) ∷ (λ x y. x.1 == y.1) ∷ []

abbrev pub m2 : List Item
m2 = (1, 10, 100) ∷ (2, 20, 200) ∷ []

abbrev keyed : ℕ → ℕ → List (Item → Bool)
keyed a b = (λ x. x.0 == a) ∷ (λ x. x.1 == b) ∷ []

conflict_at_first_key : add pairs m2 (1, 99, 0) ≡ Err ((1, 99, 0), (1, 10, 100) ∷ [])
conflict_at_first_key = refl

conflict_at_second_key : conflicting pairs m2 (99, 10, 0) ≡ (1, 10, 100) ∷ []
conflict_at_second_key = refl

two_conflicts_in_key_order : conflicting pairs m2 (2, 10, 5) ≡ (2, 20, 200) ∷ (1, 10, 100) ∷ []
two_conflicts_in_key_order = refl

equal_numbers_at_other_ranks : add pairs ((1, 10, 100) ∷ []) (10, 1, 5) ≡ Ok ((10, 1, 5) ∷ (1, 10, 100) ∷ [])
equal_numbers_at_other_ranks = refl

over_two : with_item pairs m2 (1, 20, 300) ≡ (1, 20, 300) ∷ []
over_two = refl

both_displaced : conflicting pairs m2 (1, 20, 300) ≡ (1, 10, 100) ∷ (2, 20, 200) ∷ []
both_displaced = refl

displaced_once : conflicting pairs ((1, 10, 100) ∷ []) (1, 10, 101) ≡ (1, 10, 100) ∷ []
displaced_once = refl

keys_of_two_items : all_of (keyed 1 20) m2 ≡ []
keys_of_two_items = refl

has_both_keys : all_of (keyed 2 20) m2 ≡ (2, 20, 200) ∷ []
has_both_keys = refl

entry_listing_of_two : listing (keyed 1 20) m2 ≡ (1, 10, 100) ∷ (2, 20, 200) ∷ []
entry_listing_of_two = refl

entry_listing_of_one : listing (keyed 1 99) m2 ≡ (1, 10, 100) ∷ []
entry_listing_of_one = refl

entry_removed : remainder (keyed 1 99) m2 ≡ (2, 20, 200) ∷ []
entry_removed = refl

second_key_differs : first_mismatch (keyed 1 99) (1, 98, 0) ≡ Some 1
second_key_differs = refl

first_key_differs : first_mismatch (keyed 5 50) (6, 50, 0) ≡ Some 0
first_key_differs = refl

abbrev triples : Ranks (ℕ × ℕ × ℕ × ℕ)
triples = (λ x y. x.0 == y.0) ∷ (λ x y. x.1 == y.1) ∷ (λ x y. x.2 == y.2) ∷ []

abbrev m3 : List (ℕ × ℕ × ℕ × ℕ)
m3 = (1, 10, 100, 7) ∷ (2, 20, 200, 8) ∷ (3, 30, 300, 9) ∷ []

three_displaced : conflicting triples m3 (1, 20, 300, 5) ≡ m3
three_displaced = refl

over_three : with_item triples m3 (1, 20, 300, 5) ≡ (1, 20, 300, 5) ∷ []
over_three = refl

displaced_of_three : conflicting triples m3 (1, 10, 300, 5) ≡ (1, 10, 100, 7) ∷ (3, 30, 300, 9) ∷ []
displaced_of_three = refl

refused_in_a_list : adds pairs [] ((1, 10, 0) ∷ (2, 20, 0) ∷ (2, 10, 5) ∷ []) ≡ Err ((2, 10, 5), (2, 20, 0) ∷ (1, 10, 0) ∷ [])
refused_in_a_list = refl

overs_of_two : with_items pairs m2 ((3, 30, 300) ∷ (3, 20, 0) ∷ []) ≡ (3, 20, 0) ∷ (1, 10, 100) ∷ []
overs_of_two = refl

-- the tests of the keys of an entry
entry_of_two : entry (keyed 1 20) m2 ≡ non_unique ((1, 10, 100) ∷ (2, 20, 200) ∷ [])
entry_of_two = refl

then_unique : entry (keyed 1 20) ((1, 20, 300) ∷ []) ≡ unique (1, 20, 300)
then_unique = refl

entry_of_one : entry (keyed 1 99) m2 ≡ non_unique ((1, 10, 100) ∷ [])
entry_of_one = refl

no_second_key : filter (λ x. x.1 == 99) m2 ≡ []
no_second_key = refl

entry_of_none : entry (keyed 5 50) [] ≡ vacant
entry_of_none = refl

-- a member leaves by its second key, and is then not found by its first
taken_by_second_key : remainder ((λ x. x.1 == 10) ∷ []) m2 ≡ (2, 20, 200) ∷ []
taken_by_second_key = refl

not_found_by_first_key : filter (λ x. x.0 == 1) (remainder ((λ x. x.1 == 10) ∷ []) m2) ≡ []
not_found_by_first_key = refl

-- another value under the same keys
replaced : swap pairs m2 (1, 10, 100) (1, 10, 7) ≡ (1, 10, 7) ∷ (2, 20, 200) ∷ []
replaced = refl

-- equal hashes count, whatever the keys
alike : crowd (λ x. 0) m2 0 ≡ 2
alike = refl

-- items with equal values
abbrev same_value : Item → Item → Bool
same_value x y = x.2 == y.2

same_in_any_order : IsSameBag pairs same_value m2 ((2, 20, 200) ∷ (1, 10, 100) ∷ [])
same_in_any_order = (m2, IsPermutation-flip (2, 20, 200) (1, 10, 100) [], (refl, (refl, tt)))

-- the same keys in other pairs
abbrev crossed : List Item
crossed = (1, 20, 100) ∷ (2, 10, 200) ∷ []

not_same_where_keys_cross : IsSameBag pairs same_value m2 crossed → ⊥
not_same_where_keys_cross h = no_partner (IsSameBag-pair pairs same_value m2 crossed h (1, 10, 100) (0, omega arith, refl))
  where
    by_place : (y : Item) (k : ℕ) → k < 2 → get_or crossed k y ≡ y → (agrees pairs (1, 10, 100) y && same_value (1, 10, 100) y) ≡ true → ⊥
    by_place y zero lt is e = false≢true (rw (← is) at e)
    by_place y (suc zero) lt is e = false≢true (rw (← is) at e)
    by_place y (suc (suc k)) lt is e = omega arith

    no_partner : HasPair pairs same_value crossed (1, 10, 100) → ⊥
    no_partner (y, (k, lt, is), e) = by_place y k lt is e
