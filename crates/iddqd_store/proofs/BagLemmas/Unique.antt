-- What all keys at once find, and whether there is something.
use Rattle.std.specs.Prelude.{◌≡◌, Bool, true, false, cond, ◌||◌, List, [], ◌∷◌, filter, Option, Some, None, is_some}
use Rattle.std.specs.List.{list_any}
use Rattle.std.specs.Borrow.{Bor}
use Rattle.std.specs.Option.{option_to_list, option_copied}
use Rattle.std.proofs.Common.{refl, sym, ap, ◌∙◌}
use Rattle.iddqd_store.specs.Bag.{every_of, all_of}
use Rattle.iddqd_store.proofs.BagLemmas.Entries.{all_of-next}
use Rattle.iddqd_store.proofs.BagLemmas.Exchanges.{split}

module _ {T : Type 0} where
  -- no item passes the first test
  pub all_of-none : (test : T → Bool) (tests : List (T → Bool)) (xs : List T) → [] ≡ filter test xs → [] ≡ all_of (test ∷ tests) xs
  all_of-none test tests xs none = ap (all_of tests) none ∙ sym (all_of-next test tests xs)

  -- the item that passes the first test passes the others too
  pub all_of-kept : (test : T → Bool) (tests : List (T → Bool)) (xs : List T) (found : Option T) (x : T) → found ≡ Some x
      → option_to_list found ≡ filter test xs → every_of tests x ≡ true → option_to_list found ≡ all_of (test ∷ tests) xs
  all_of-kept test tests xs None x is one passes = absurd (cc)
  all_of-kept test tests xs (Some y) x is one passes =
      let too : every_of tests y ≡ true = let same : y ≡ x = cc in ap (every_of tests) same ∙ passes in
      sym (all_of-next test tests xs ∙ ap (all_of tests) (sym one) ∙ ap (λ b. cond b (y ∷ []) []) too)

  -- or it does not pass them
  pub all_of-lost : (test : T → Bool) (tests : List (T → Bool)) (xs : List T) (found : Option T) (x : T) → found ≡ Some x
      → option_to_list found ≡ filter test xs → every_of tests x ≡ false → [] ≡ all_of (test ∷ tests) xs
  all_of-lost test tests xs None x is one fails = absurd (cc)
  all_of-lost test tests xs (Some y) x is one fails =
      let too : every_of tests y ≡ false = let same : y ≡ x = cc in ap (every_of tests) same ∙ fails in
      sym (all_of-next test tests xs ∙ ap (all_of tests) (sym one) ∙ ap (λ b. cond b (y ∷ []) []) too)

  abbrev pub some_item : List T → Bool
  some_item [] = false
  some_item (x ∷ xs) = true

  pub any_listed : (test : T → Bool) (xs : List T) → list_any test xs ≡ some_item (filter test xs)
  any_listed test [] = refl
  any_listed test (x ∷ xs) = split (λ b. (b || list_any test xs) ≡ some_item (cond b (x ∷ filter test xs) (filter test xs))) (test x) (λ _. refl) (λ _. any_listed test xs)

  -- a lookup gives something exactly if a member passes
  pub is_some-found : (test : T → Bool) (xs : List T) (found : Option (Bor T)) → option_to_list (option_copied found) ≡ filter test xs → is_some found ≡ list_any test xs
  is_some-found test xs None is = ap some_item is ∙ sym (any_listed test xs)
  is_some-found test xs (Some b) is = ap some_item is ∙ sym (any_listed test xs)
