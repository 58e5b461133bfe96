-- Facts on numbers, their tests, and results that several files use.
use Rattle.std.specs.Prelude.{◌≡◌, ◌≢◌, ◌<◌, ◌≤◌, ℕ, false, nat_eq, Result, Ok, Err}
use Rattle.std.proofs.Common.{⊎_elim, sym}
use Rattle.std.proofs.lemmas.Bool.{cases_eq, cases_lt, eqb-false, ne_eqb}

pub by_order : {P : Type 0} (a b : ℕ) → (a < b → P) → (b ≤ a → P) → P
by_order a b less rest = ⊎_elim less rest (cases_lt a b)

pub by_equal : {P : Type 0} (a b : ℕ) → (a ≡ b → P) → (a ≢ b → P) → P
by_equal a b same other = ⊎_elim same other (cases_eq a b)

pub number_apart : (a b : ℕ) → nat_eq a b ≡ false → b ≢ a
number_apart a b h e = eqb-false a b h (sym e)

pub other_number : (a b : ℕ) → nat_eq a b ≡ false → a ≢ b
other_number a b h same = number_apart a b h (sym same)

pub number_turned : (a b : ℕ) → nat_eq a b ≡ false → nat_eq b a ≡ false
number_turned a b h = ne_eqb b a (number_apart a b h)

pub same_ok : {A E : Type 0} (r : Result A E) (a b : A) → r ≡ Ok a → r ≡ Ok b → a ≡ b
same_ok r a b h k = cc

pub ok_or_err : {A E : Type 0} (r : Result A E) (a : A) (e : E) → r ≡ Ok a → r ≡ Err e → ⊥
ok_or_err r a e h k = cc
