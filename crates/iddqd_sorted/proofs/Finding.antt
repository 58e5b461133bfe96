-- Items that a test finds, in a list of which another order is a bag.
use Rattle.std.proofs.Common.{◌≡◌, ℕ, zero, suc, ◌<◌, ◌≤◌, Bool, true, false, not, List, [], ◌∷◌, length, get_or, refl, sym, ap, ◌∙◌, subst, arith}
use Rattle.std.specs.Prelude.{filter, Contains, IsPermutation, Option, Some, None}
use Rattle.std.specs.List.{remove}
use Rattle.std.specs.Option.{option_to_list}
use Rattle.std.proofs.lemmas.List.{nil_from_length}
use Rattle.std.proofs.lemmas.List.Sorted.{length_permutation}
use Rattle.iddqd_store.specs.Bag.{IsOnly}
use Rattle.iddqd_store.proofs.BagLemmas.Exchanges.{IsPermutation-filter}
use Rattle.iddqd_store.proofs.BagLemmas.Sound.{same_from_short}

short : {T : Type 0} (o : Option T) → length (option_to_list o) ≤ 1
short None = omega arith
short (Some x) = omega arith

module _ {T : Type 0} (test : T → Bool) (xs ys : List T) (same : IsPermutation xs ys) where
  -- the only one of a list is the only one in another order
  pub IsOnly-permutation : (o : Option T) → IsOnly test xs o → IsOnly test ys o
  IsOnly-permutation o only =
      let few : length (filter test xs) ≤ 1 = subst (λ (q : List T). length q ≤ 1) only (short o) in
      only ∙ same_from_short (filter test xs) (filter test ys) (IsPermutation-filter test xs ys same) few

  pub none-permutation : filter test xs ≡ [] → filter test ys ≡ []
  none-permutation none =
      nil_from_length (filter test ys) (length_permutation _ _ (IsPermutation-filter test xs ys same) ∙ ap length none)

module _ {T : Type 0} (test : T → Bool) where
  here_true : (x : T) (xs : List T) → test x ≡ true → filter test (x ∷ xs) ≡ x ∷ filter test xs
  here_true x xs passes = rw passes refl

  here_false : (x : T) (xs : List T) → test x ≡ false → filter test (x ∷ xs) ≡ filter test xs
  here_false x xs fails = rw fails refl

  pub all_others : (xs : List T) → filter test xs ≡ [] → filter (λ y. not (test y)) xs ≡ xs
  all_others [] none = refl
  all_others (x ∷ xs) none = by_test (test x) refl (all_others xs)
    where
      by_test : (b : Bool) → test x ≡ b → (filter test xs ≡ [] → filter (λ y. not (test y)) xs ≡ xs) → filter (λ y. not (test y)) (x ∷ xs) ≡ x ∷ xs
      by_test true is more = absurd (cc (sym (here_true x xs is) ∙ none))
      by_test false is more = rw is (ap (λ (q : List T). x ∷ q) (more (sym (here_false x xs is) ∙ none)))

  -- a member that passes is there
  pub passes_somewhere : (xs : List T) (x : T) (i : ℕ) → filter test xs ≡ [] → i < length xs → test (get_or xs i x) ≡ true → ⊥
  passes_somewhere [] x i none lt e = absurd (omega (arith, lt))
  passes_somewhere (y ∷ xs) x zero none lt e = absurd (cc (sym (here_true y xs e) ∙ none))
  passes_somewhere (y ∷ xs) x (suc i) none lt e = by_head (test y) refl (λ rest. passes_somewhere xs x i rest (omega (arith, lt)) e)
    where
      by_head : (b : Bool) → test y ≡ b → (filter test xs ≡ [] → ⊥) → ⊥
      by_head true head more = absurd (cc (sym (here_true y xs head) ∙ none))
      by_head false head more = more (sym (here_false y xs head) ∙ none)

  -- of the list without the only item that passes, all fail
  pub remove-only : (xs : List T) (x : T) (i : ℕ) → x ∷ [] ≡ filter test xs → i < length xs → test (get_or xs i x) ≡ true → remove xs i ≡ filter (λ y. not (test y)) xs
  remove-only [] x i only lt passes = absurd (omega arith)
  remove-only (y ∷ xs) x zero only lt passes =
      let rest : filter test xs ≡ [] = cc (only ∙ here_true y xs passes) in
      sym (all_others xs rest) ∙ rw passes refl
  remove-only (y ∷ xs) x (suc i) only lt passes = by_test (test y) refl (λ e. remove-only xs x i e (omega arith) passes)
    where
      by_test : (b : Bool) → test y ≡ b → (x ∷ [] ≡ filter test xs → remove xs i ≡ filter (λ z. not (test z)) xs) → remove (y ∷ xs) (suc i) ≡ filter (λ z. not (test z)) (y ∷ xs)
      by_test true is more =
          let rest : filter test xs ≡ [] = cc (only ∙ here_true y xs is) in
          absurd (passes_somewhere xs x i rest (omega arith) passes)
      by_test false is more = rw is (ap (λ (q : List T). y ∷ q) (more (only ∙ here_false y xs is)))

  -- the item that was found passes
  pub only_passes : (xs : List T) (x : T) → x ∷ [] ≡ filter test xs → test x ≡ true
  only_passes [] x only = absurd (cc only)
  only_passes (y ∷ xs) x only = by_test (test y) refl (only_passes xs x)
    where
      by_test : (b : Bool) → test y ≡ b → (x ∷ [] ≡ filter test xs → test x ≡ true) → test x ≡ true
      by_test true is more = let same : x ≡ y = cc (only ∙ here_true y xs is) in ap test same ∙ is
      by_test false is more = more (only ∙ here_false y xs is)

  -- the item that was found is in the list
  pub only_there : (xs : List T) (x : T) → x ∷ [] ≡ filter test xs → Contains xs x
  only_there [] x only = absurd (cc only)
  only_there (y ∷ xs) x only = by_test (test y) refl (only_there xs x)
    where
      by_test : (b : Bool) → test y ≡ b → (x ∷ [] ≡ filter test xs → Contains xs x) → Contains (y ∷ xs) x
      by_test true is more = let same : x ≡ y = cc (only ∙ here_true y xs is) in (0, omega arith, sym same)
      by_test false is more = let there = more (only ∙ here_false y xs is) in (suc there.0, omega (arith, there.1), there.2)
