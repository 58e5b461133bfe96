-- What searches by the keys of an item of a sound bag find: the slot of the item.
use Rattle.std.specs.Prelude.{◌≡◌, ◌≢◌, ◌<◌, ℕ, Bool, true, List, [], ◌∷◌, Option, Some, filter, fold, length, map, false, ◌||◌, if◌then◌else◌}
use Rattle.std.specs.List.{AllByRecursion, list_all}
use Rattle.std.specs.Option.{option_and_then, option_to_list}
use Rattle.std.proofs.Common.{IsSome, refl, sym, ap, ◌∙◌, arith}
use Rattle.std.proofs.lemmas.Bool.{eq-eqb}
use Rattle.iddqd_store.specs.Bag.{Ranks, IsSound, entry, entry_of, listing, unique}
use Rattle.iddqd_store.specs.Rank.Keys.{AreKeyTests}
use Rattle.iddqd_store.specs.Slots.{contents, get}
use Rattle.iddqd_store.specs.Slots.Found.{AreFound, entry_at, found_by_all, held_at, is_at, items_at, with_found}
use Rattle.iddqd_store.proofs.BagLemmas.Entries.{entry-unique, listing-one}
use Rattle.iddqd_store.proofs.BagLemmas.KeyTests.{each_only}
use Rattle.iddqd_store.proofs.SlotLemmas.Contents.{content_at}

some_is : {X : Type 0} (o : Option X) (x : X) → o ≡ Some x → IsSome o
some_is o x is = rw is refl

-- each search found the slot
abbrev pub all_at : {T : Type 0} → ℕ → List (T → Bool) → List (Option ℕ)
all_at slot tests = map (λ _. Some slot) tests

-- what an entry is if all its searches found the slot of x
pub record FindsHere {T : Type 0} (tests : List (T → Bool)) (slots : List (Option T)) (slot : ℕ) (x : T) : Type 0 where
  pub found : AreFound tests slots (all_at slot tests)
  pub value : entry_at slots (all_at slot tests) ≡ entry tests (contents slots)
  pub listed : held_at slots (all_at slot tests) ≡ listing tests (contents slots)
  pub some : listing tests (contents slots) ≢ []
  pub unique_item : entry tests (contents slots) ≡ unique x

module _ {T : Type 0} (slots : List (Option T)) (slot : ℕ) (x : T) (here : get slots slot ≡ Some x) where
  are_found : (tests : List (T → Bool)) → AllByRecursion (λ test. filter test (contents slots) ≡ x ∷ []) tests → AreFound tests slots (all_at slot tests)
  are_found [] only = tt
  are_found (test ∷ tests) only = (record { only = rw here (sym only.0); live = some_is _ x here }, are_found tests only.1)

  one_slot : (tests : List (T → Bool)) → fold with_found (slot ∷ []) (all_at slot tests) ≡ slot ∷ []
  one_slot [] = refl
  one_slot (test ∷ tests) = ap (λ b. fold with_found (if b || false then slot ∷ [] else slot ∷ slot ∷ []) (all_at slot tests)) (eq-eqb slot slot refl) ∙ one_slot tests

  all_there : (tests : List (T → Bool)) → list_all (is_at slot) (all_at slot tests) ≡ true
  all_there [] = refl
  all_there (test ∷ tests) = rw (eq-eqb slot slot refl) (all_there tests)

  holds_one : (tests : List (T → Bool)) → 0 < length tests → held_at slots (all_at slot tests) ≡ x ∷ []
  holds_one [] some = absurd (omega arith)
  holds_one (test ∷ tests) some = ap (items_at slots) (one_slot tests) ∙ (rw here refl)

  holds_whole : (tests : List (T → Bool)) → 0 < length tests → option_to_list (option_and_then (get slots) (found_by_all (all_at slot tests))) ≡ x ∷ []
  holds_whole [] some = absurd (omega arith)
  holds_whole (test ∷ tests) some = rw (all_there tests) (rw here refl)

-- x is in the slot, and has the keys that the tests ask for
module _ {T : Type 0} (ranks : Ranks T) (tests : List (T → Bool)) (some : 0 < length tests) (keys : AreKeyTests ranks tests) (slots : List (Option T))
    (slot : ℕ) (x : T) (passes : AllByRecursion (λ test. test x ≡ true) tests) (sound : IsSound ranks (contents slots))
    (here : get slots slot ≡ Some x) where
  only : AllByRecursion (λ test. filter test (contents slots) ≡ x ∷ []) tests
  only = each_only ranks tests (contents slots) x keys passes sound (content_at slots slot x here)

  one_listed : listing tests (contents slots) ≡ x ∷ []
  one_listed = listing-one tests (contents slots) x some only

  is_unique_here : entry tests (contents slots) ≡ unique x
  is_unique_here = entry-unique tests (contents slots) x some only

  pub finds_here : FindsHere tests slots slot x
  finds_here = record {
    found = are_found slots slot x here tests only;
    value = ap (λ l. entry_of l (option_to_list (option_and_then (get slots) (found_by_all (all_at slot tests)))))
        (holds_one slots slot x here tests some) ∙ ap (entry_of (x ∷ [])) (holds_whole slots slot x here tests some) ∙ sym is_unique_here;
    listed = holds_one slots slot x here tests some ∙ sym one_listed;
    some = λ none. absurd (omega (arith, ap length (sym one_listed ∙ none)));
    unique_item = is_unique_here;
  }
