-- An item that differs at no rank passes each test.
use Rattle.std.specs.Prelude.{◌≡◌, ◌+◌, suc, Bool, true, false, cond, not, List, [], ◌∷◌, length, Some, None}
use Rattle.std.specs.List.{AllByRecursion, position, position_or_len}
use Rattle.std.proofs.Common.{refl, sym, ◌∙◌, inl, inr, arith, nat_lt}
use Rattle.std.proofs.lemmas.Bool.{cases_lt, not-false}
use Rattle.std.proofs.lemmas.Bool.Decides.{nat_tests}
use Rattle.std.proofs.lemmas.Option.{none-some}
use Rattle.iddqd_store.specs.Bag.{Ranks, first_mismatch, every_of, tests_of, agrees}

module _ {X : Type 0} where
  -- if there is no place, the first element fails, and there is no place further on
  no_place : (p : X → Bool) (x : X) (xs : List X) → position p (x ∷ xs) ≡ None → (p x ≡ false) × (position p xs ≡ None)
  no_place p x xs none = go (p x) refl
    where
      go : (t : Bool) → p x ≡ t → (p x ≡ false) × (position p xs ≡ None)
      go true e =
          let t : nat_lt 0 (suc (length xs)) ≡ true = grind (arith, nat_tests) in
          let shown : position p (x ∷ xs) ≡ cond (nat_lt 0 (suc (length xs))) (Some 0) None = rw e refl in
          let bad : Some 0 ≡ None = sym (rw t at shown) ∙ none in
          absurd (none-some 0 (sym bad))
      go false e =
          let n = position_or_len p xs in
          elim (cases_lt n (length xs)) [
            | inl under ↦
                let t : nat_lt (1 + n) (suc (length xs)) ≡ true = grind (arith, nat_tests) in
                let shown : position p (x ∷ xs) ≡ cond (nat_lt (1 + n) (suc (length xs))) (Some (1 + n)) None = rw e refl in
                let bad : Some (1 + n) ≡ None = sym (rw t at shown) ∙ none in
                absurd (none-some (1 + n) (sym bad))
            | inr over ↦
                let t : nat_lt n (length xs) ≡ false = grind (arith, nat_tests) in
                let rest : position p xs ≡ None = rw t refl in
                (e, rest)
          ]

module _ {T : Type 0} where
  pub first_mismatch-none : (tests : List (T → Bool)) (x : T) → first_mismatch tests x ≡ None → AllByRecursion (λ test. test x ≡ true) tests
  first_mismatch-none [] x none = tt
  first_mismatch-none (test ∷ tests) x none =
      let first = no_place (λ t. not (t x)) test tests none in
      (not-false (test x) first.0, first_mismatch-none tests x first.1)

  pub every_passed : (tests : List (T → Bool)) (x : T) → AllByRecursion (λ test. test x ≡ true) tests → every_of tests x ≡ true
  every_passed [] x passes = refl
  every_passed (test ∷ tests) x passes = rw (passes.0, every_passed tests x passes.1) refl

  -- an item that has the keys of x at each rank agrees with it
  pub agrees-first_mismatch : (ranks : Ranks T) (x y : T) → first_mismatch (tests_of ranks x) y ≡ None → agrees ranks x y ≡ true
  agrees-first_mismatch ranks x y none = every_passed (tests_of ranks x) y (first_mismatch-none (tests_of ranks x) y none)
