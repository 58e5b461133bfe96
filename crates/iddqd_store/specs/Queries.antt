-- What queries of several parts stand for, and why they meet the laws of `Query`.
use Rattle.std.specs.Prelude.{◌≡◌, Bool, true, false, ◌&&◌, Option, Some, None, List, [], ◌∷◌, ◌++◌}
use Rattle.std.specs.Cmp.Lexicographic.{pointwise, as_long}
use Rattle.std.specs.Cmp.{first_so, second_so}
use Rattle.std.specs.Hash.{HashWrites, usize, slice, option}
use Rattle.std.specs.List.{flat_map}
use Rattle.std.specs.Option.{option_eq}
use mathlib.Core.Bool.{true≢false}
use mathlib.Core.Path.{ap, refl, sym}

-- `some_passes` tells whether an option has a value that passes the test.
-- Example: For the test whether a number is 2, `Some 2` has one, and `Some 3` and `None` have none.
abbrev pub some_passes : {K : Type 0} → (K → Bool) → Option K → Bool
some_passes test None = false
some_passes test (Some k) = test k

module _ {Q K : Type 0} where
  -- `option_stands` tells whether an option of a query stands for an option of a key: both are `None`, or the query stands
  -- for the key.
  -- Example: A query for 2 in a `Some` stands for `Some 2`, and not for `Some 3` or `None`. `None` stands for `None` alone.
  abbrev pub option_stands : (Q → K → Bool) → Option Q → Option K → Bool
  option_stands E None None = true
  option_stands E None (Some k) = false
  option_stands E (Some q) k = some_passes (E q) k

  module _ {E : Q → K → Bool} {F : Q → HashWrites} {G : K → HashWrites} (fed : (q : Q) (k : K) → E q k ≡ true → F q ≡ G k) where
    pub option_fed : (q : Option Q) (k : Option K) → option_stands E q k ≡ true → option F q ≡ option G k
    option_fed None None h = refl
    option_fed None (Some k) h = absurd (true≢false (sym h))
    option_fed (Some q) None h = absurd (true≢false (sym h))
    option_fed (Some q) (Some k) h = ap (λ w. usize 1 ++ w) (fed q k h)

    each_fed : (qs : List Q) (ks : List K) → pointwise E qs ks ≡ true → flat_map F qs ≡ flat_map G ks
    each_fed [] [] h = refl
    each_fed [] (k ∷ ks) h = absurd (true≢false (sym h))
    each_fed (q ∷ qs) [] h = absurd (true≢false (sym h))
    each_fed (q ∷ qs) (k ∷ ks) h = λ i. fed q k (first_so (E q k) (pointwise E qs ks) h) i ++ each_fed qs ks (second_so (E q k) (pointwise E qs ks) h) i

    pub list_fed : (qs : List Q) (ks : List K) → pointwise E qs ks ≡ true → slice F qs ≡ slice G ks
    list_fed qs ks h = λ i. usize (as_long E qs ks h i) ++ each_fed qs ks h i

  module _ {E : Q → K → Bool} {D : K → K → Bool} (agrees : (q : Q) (x y : K) → E q x ≡ true → E q y ≡ D x y) where
    pub option_agrees : (q : Option Q) (x y : Option K) → option_stands E q x ≡ true → option_stands E q y ≡ option_eq D x y
    option_agrees None None None h = refl
    option_agrees None None (Some y) h = refl
    option_agrees None (Some x) y h = absurd (true≢false (sym h))
    option_agrees (Some q) None y h = absurd (true≢false (sym h))
    option_agrees (Some q) (Some x) None h = refl
    option_agrees (Some q) (Some x) (Some y) h = agrees q x y h

    pub list_agrees : (qs : List Q) (xs ys : List K) → pointwise E qs xs ≡ true → pointwise E qs ys ≡ pointwise D xs ys
    list_agrees [] [] [] h = refl
    list_agrees [] [] (y ∷ ys) h = refl
    list_agrees [] (x ∷ xs) ys h = absurd (true≢false (sym h))
    list_agrees (q ∷ qs) [] ys h = absurd (true≢false (sym h))
    list_agrees (q ∷ qs) (x ∷ xs) [] h = refl
    list_agrees (q ∷ qs) (x ∷ xs) (y ∷ ys) h = λ i. agrees q x y (first_so (E q x) (pointwise E qs xs) h) i && list_agrees qs xs ys (second_so (E q x) (pointwise E qs xs) h) i
