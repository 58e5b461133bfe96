-- What the keys of an entry find in a sound bag.
use Rattle.std.specs.Prelude.{◌≡◌, ◌<◌, Bool, true, not, List, [], ◌∷◌, ◌++◌, length, filter}
use Rattle.std.specs.List.{AllByRecursion}
use Rattle.std.proofs.Common.{refl, sym, ap, subst, ◌∙◌, arith}
use Rattle.iddqd_store.proofs.BagLemmas.Sound.{each_passes, filter_twice, filter_swap}
use Rattle.iddqd_store.specs.Bag.{every_of, listing, all_of, unique, entry, entry_of}

module _ {T : Type 0} where
  -- the members that pass every test, from those that pass the first
  pub all_of-next : (test : T → Bool) (tests : List (T → Bool)) (bag : List T) → all_of (test ∷ tests) bag ≡ all_of tests (filter test bag)
  all_of-next test tests bag = sym (filter_twice test (every_of tests) bag)

  -- if no test finds a member, none is listed
  pub listing-none : (tests : List (T → Bool)) (bag : List T) → AllByRecursion (λ test. filter test bag ≡ []) tests → listing tests bag ≡ []
  listing-none [] bag h = refl
  listing-none (test ∷ tests) bag h =
      let others : List T = filter (λ x. not (test x)) bag in
      let rest = listing-none tests others (still tests h.1) in
      ap (λ l. l ++ listing tests others) h.0 ∙ rest
    where
      still : (tests : List (T → Bool)) → AllByRecursion (λ t. filter t bag ≡ []) tests → AllByRecursion (λ t. filter t (filter (λ x. not (test x)) bag) ≡ []) tests
      still [] h = tt
      still (t ∷ tests) h = (filter_swap t (λ x. not (test x)) bag ∙ ap (filter (λ x. not (test x))) h.0, still tests h.1)

  -- if each test finds the one member, it is listed once
  pub listing-one : (tests : List (T → Bool)) (bag : List T) (y : T) → 0 < length tests → AllByRecursion (λ test. filter test bag ≡ y ∷ []) tests → listing tests bag ≡ y ∷ []
  listing-one [] bag y some h = absurd (omega arith)
  listing-one (test ∷ tests) bag y some h =
      let passes : test y ≡ true = (subst (AllByRecursion (λ x. test x ≡ true)) h.0 (each_passes test bag)).0 in
      let gone : filter (λ x. not (test x)) (y ∷ []) ≡ [] = rw passes refl in
      let others : List T = filter (λ x. not (test x)) bag in
      ap (λ l. l ++ listing tests others) h.0 ∙ ap (λ l. y ∷ l) (listing-none tests others (rest tests gone h.1))
    where
      rest : (tests : List (T → Bool)) → filter (λ x. not (test x)) (y ∷ []) ≡ [] → AllByRecursion (λ t. filter t bag ≡ y ∷ []) tests
          → AllByRecursion (λ t. filter t (filter (λ x. not (test x)) bag) ≡ []) tests
      rest [] gone h = tt
      rest (t ∷ tests) gone h = (filter_swap t (λ x. not (test x)) bag ∙ ap (filter (λ x. not (test x))) h.0 ∙ gone, rest tests gone h.1)

  -- that member passes every test
  pub all_of-one : (tests : List (T → Bool)) (bag : List T) (y : T) → 0 < length tests → AllByRecursion (λ test. filter test bag ≡ y ∷ []) tests → all_of tests bag ≡ y ∷ []
  all_of-one [] bag y some h = absurd (omega arith)
  all_of-one (test ∷ tests) bag y some h = all_of-next test tests bag ∙ ap (all_of tests) h.0 ∙ whole tests h.1
    where
      whole : (tests : List (T → Bool)) → AllByRecursion (λ t. filter t bag ≡ y ∷ []) tests → all_of tests (y ∷ []) ≡ y ∷ []
      whole [] h = refl
      whole (t ∷ tests) h =
          let passes : t y ≡ true = (subst (AllByRecursion (λ x. t x ≡ true)) h.0 (each_passes t bag)).0 in
          let first : filter t (y ∷ []) ≡ y ∷ [] = rw passes refl in
          all_of-next t tests (y ∷ []) ∙ ap (all_of tests) first ∙ whole tests h.1

  pub entry-unique : (tests : List (T → Bool)) (bag : List T) (y : T) → 0 < length tests → AllByRecursion (λ test. filter test bag ≡ y ∷ []) tests → entry tests bag ≡ unique y
  entry-unique tests bag y some h =
      ap (λ l. entry_of l (all_of tests bag)) (listing-one tests bag y some h) ∙ ap (entry_of (y ∷ [])) (all_of-one tests bag y some h)
