-- What searches by each key of an item say of the items that conflict with it.
use Rattle.std.specs.Prelude.{◌≡◌, ◌<◌, ℕ, Bool, true, false, ◌||◌, List, [], ◌∷◌, ◌++◌, length, filter, Option, Some, None, is_some, IsSome, IsPermutation}
use Rattle.std.specs.Cmp.{IsEquivalence}
use Rattle.std.specs.List.{AllByRecursion, IsDistinct, list_any}
use Rattle.std.specs.Option.{IfSome, option_to_list}
use Rattle.std.proofs.Common.{refl, sym, ap, subst, ◌∙◌, arith}
use Rattle.std.proofs.lemmas.List.{nil_from_length}
use Rattle.std.proofs.lemmas.List.Sorted.{IsPermutation-refl, IsPermutation-sym}
use Rattle.iddqd_store.specs.Bag.{Ranks, conflicts_of, tests_of, conflicting, with_item, some_of}
use Rattle.iddqd_store.specs.Map.{Map, bag, ConflictsAt}
use Rattle.iddqd_store.specs.declared.index_table.searched.Searched.{Searched}
use Rattle.iddqd_store.specs.declared.index_table.searched.Searched.TheVariants.{Found, Vacant}
use Rattle.iddqd_store.specs.Searched.{OnFound, OnVacant}
use Rattle.iddqd_store.specs.Slots.{IsLive, contents, get}
use Rattle.iddqd_store.specs.Slots.Found.{AreFound, FoundAt, StandAt, each_once, items_at}
use Rattle.iddqd_store.proofs.BagLemmas.Over.{with_item-taken}
use Rattle.iddqd_store.proofs.BagLemmas.Sound.{IsPermutation-conflicting, same_from_short}
use Rattle.iddqd_store.proofs.BagLemmas.Unique.{any_listed, some_item}
use Rattle.iddqd_store.proofs.MapLemmas.Storing.{live_found}
use Rattle.iddqd_store.proofs.SlotLemmas.Entries.{IsDistinct-each_once, found_listing, held_none, held_some}
use Rattle.iddqd_store.proofs.SlotLemmas.Found.{none_conflict, some_conflict}

module _ {T : Type 0} (slots : List (Option T)) where
  each_live : (tests : List (T → Bool)) (found : List (Option ℕ)) → AreFound tests slots found → AllByRecursion (λ at. IfSome at (IsLive slots)) found
  each_live [] [] are = tt
  each_live [] (at ∷ found) are = absurd are
  each_live (test ∷ tests) [] are = absurd are
  each_live (test ∷ tests) (at ∷ found) are = (are.0.live, each_live tests found are.1)

  none_at : (numbers : List ℕ) → length numbers ≡ 0 → items_at slots numbers ≡ []
  none_at [] short = refl
  none_at (a ∷ numbers) short = absurd (omega arith)

module _ {T S : Type 0} {agree : T → T → Bool} (laws : IsEquivalence agree) (m : Map T S) (apart : IsDistinct agree (bag m)) (ranks : Ranks T) (x : T)
    (found : List (Option ℕ)) (are : AreFound (tests_of ranks x) m.slots found) where
  -- the slots that were found list these items
  conflicts_found : StandAt m.slots (each_once found) (conflicting ranks (bag m) x)
  conflicts_found = record {
    items = found_listing laws m.slots apart (tests_of ranks x) found are;
    live = live_found m.slots found (each_live m.slots (tests_of ranks x) found are);
    apart = IsDistinct-each_once found;
  }

  -- if a slot is found, the item conflicts
  pub conflict_by : list_any is_some found ≡ true → ConflictsAt ranks m x (each_once found)
  conflict_by some = record {
    some = some_conflict ranks m.slots x (each_once found) conflicts_found.items conflicts_found.live (λ short. held_some m.slots (tests_of ranks x) found are some (none_at m.slots (each_once found) short));
    found = conflicts_found;
  }

  -- if no slot is found, nothing conflicts with it
  pub free_by : list_any is_some found ≡ false → conflicts_of ranks (bag m) x ≡ []
  free_by none = none_conflict ranks m.slots x [] (sym (held_none m.slots found none) ∙ conflicts_found.items) refl

  -- if the search says which of both it was, so do these
  pub free_on : {F V : Type 0} (r : Searched F V) → OnVacant r (list_any is_some found ≡ false) → OnVacant r (conflicts_of ranks (bag m) x ≡ [])
  free_on (Found found) none = tt
  free_on (Vacant at) none = free_by none

  pub conflict_on : {F V : Type 0} (r : Searched F V) → OnFound r (list_any is_some found ≡ true) → OnFound r (ConflictsAt ranks m x (each_once found))
  conflict_on (Found found) some = conflict_by some
  conflict_on (Vacant at) some = tt

-- a search finds a slot exactly if some item passes its test
pub is_some-at : {T : Type 0} (test : T → Bool) (slots : List (Option T)) (at : Option ℕ) → FoundAt test slots at → is_some at ≡ list_any test (contents slots)
is_some-at test slots None found = sym (any_listed test (contents slots) ∙ ap some_item (sym found.only))
is_some-at {T} test slots (Some slot) found = by_slot (get slots slot) found.live found.only
  where
    by_slot : (o : Option T) → IsSome o → option_to_list o ≡ filter test (contents slots) → true ≡ list_any test (contents slots)
    by_slot None some only = absurd (cc)
    by_slot (Some y) some only = sym (any_listed test (contents slots) ∙ ap some_item (sym only))

module _ {T : Type 0} where
  -- no item passes either of two tests
  neither : (p q : T → Bool) (xs : List T) → filter (λ x. p x || q x) xs ≡ [] → (list_any p xs ≡ false) × (filter q xs ≡ [])
  neither p q [] none = (refl, refl)
  neither p q (x ∷ xs) none = by (p x) (q x) refl refl (neither p q xs)
    where
      by : (a b : Bool) → p x ≡ a → q x ≡ b → (filter (λ y. p y || q y) xs ≡ [] → (list_any p xs ≡ false) × (filter q xs ≡ [])) → (list_any p (x ∷ xs) ≡ false) × (filter q (x ∷ xs) ≡ [])
      by true b is_a is_b less = let some = rw is_a at none in absurd (cc some)
      by false true is_a is_b less = let some = rw (is_a, is_b) at none in absurd (cc some)
      by false false is_a is_b less = let rest = less (rw (is_a, is_b) at none) in (rw is_a rest.0, rw is_b rest.1)

  -- if no item passes some of the tests, none passes any of them: what conflicts with nothing has no key that is taken
  pub none_taken : (tests : List (T → Bool)) (xs : List T) → filter (λ x. some_of tests x) xs ≡ [] → AllByRecursion (λ test. list_any test xs ≡ false) tests
  none_taken [] xs none = tt
  none_taken (test ∷ tests) xs none = let both = neither test (λ x. some_of tests x) xs none in (both.0, none_taken tests xs both.1)

module _ {T : Type 0} (ranks : Ranks T) (bag : List T) (x : T) (free : conflicts_of ranks bag x ≡ []) where
  -- if nothing conflicts with an item, nothing is listed
  pub order_none : conflicting ranks bag x ≡ []
  order_none = sym (same_from_short [] (conflicting ranks bag x) (IsPermutation-sym _ _ (subst (IsPermutation (conflicting ranks bag x)) free (IsPermutation-conflicting ranks bag x))) (omega arith))

  -- an item that is inserted then replaces none
  pub over_none : (new : List T) → IsPermutation new (x ∷ bag) → IsPermutation new (with_item ranks bag x)
  over_none new put = with_item-taken ranks bag bag new x (subst (λ l. IsPermutation bag (l ++ bag)) (sym order_none) (IsPermutation-refl bag)) put

-- items in these slots are in equal lists of slots
pub stand_in : {T : Type 0} {slots : List (Option T)} {xs : List T} {found others : List ℕ} → found ≡ others → StandAt slots others xs → StandAt slots found xs
stand_in {slots = slots} {xs = xs} same stand = subst (λ l. StandAt slots l xs) (sym same) stand

-- the same for the slots that were taken from a list one by one
pub stand_as : {T : Type 0} {slots : List (Option T)} {xs : List T} {found others numbers : List ℕ} → StandAt slots others xs → found ≡ others → found ≡ numbers → StandAt slots numbers xs
stand_as stand same is = stand_in (sym is ∙ same) stand

-- a list of at most two or three slots has no more
pub two_popped : {found first rest : List ℕ} {x y : ℕ} → length first < 2 → found ≡ x ∷ first → first ≡ y ∷ rest → found ≡ x ∷ y ∷ []
two_popped {first = first} {rest = rest} fewer is then = let none = nil_from_length rest (omega (arith, ap length then, fewer)) in rw (is, then, none) refl

pub three_popped : {found first second rest : List ℕ} {x y z : ℕ} → length first < 3 → found ≡ x ∷ first → first ≡ y ∷ second → second ≡ z ∷ rest → found ≡ x ∷ y ∷ z ∷ []
three_popped {rest = rest} fewer is then last = let none = nil_from_length rest (omega (arith, ap length then, ap length last, fewer)) in rw (is, then, last, none) refl
