-- Cells on a line, where cell 0 is the place in question and the others come after it.
use Rattle.std.proofs.Common.{◌≡◌, ℕ, suc, zero, ◌+◌, ◌-◌, ◌<◌, ◌≤◌, ltb, List, [], ◌∷◌, Option, None, Some, refl, inl, inr, arith, rules}
use Rattle.std.specs.List.{count_by}
use Rattle.std.specs.Prelude.{◌⊎◌, cond}
use Rattle.std.proofs.lemmas.List.Sums.{sum_by-cons}
use Rattle.std.proofs.lemmas.Bool.Decides.{nat_tests}
use Rattle.iddqd_store.specs.Slots.{contents}
use Rattle.iddqd_store.specs.Table.Ring.{cell}

pub cases_option : {X : Type 0} (o : Option X) → (o ≡ None) ⊎ ((x : X) × (o ≡ Some x))
cases_option None = inl refl
cases_option (Some x) = inr (x, refl)

one_more_few : (g j o n : ℕ) → o ≤ g → n ≤ j - (o + 1) → cond (ltb g j) 1 0 + n ≤ j - o
one_more_few g j o n a b = grind (arith, nat_tests)

one_more_many : (g j m n : ℕ) → g < j → m ≤ n → suc m ≤ cond (ltb g j) 1 0 + n
one_more_many g j m n a b = grind (arith, nat_tests)

-- if each pair's home is at its cell or after it, few homes are near
pub few : {X : Type 0} (g : X → ℕ) (j : ℕ) (cs : List (Option X)) (o : ℕ) → ((k : ℕ) (x : X) → cell cs k ≡ Some x → o + k ≤ g x) → count_by (λ x. ltb (g x) j) (contents cs) ≤ j - o
few g j [] o h = omega arith
few g j (None ∷ cs) o h =
    let ih : count_by (λ x. ltb (g x) j) (contents cs) ≤ j - (o + 1) = few g j cs (o + 1) (λ k x e. let l = h (suc k) x e in omega arith) in
    omega arith
few g j (Some x ∷ cs) o h =
    let ih : count_by (λ x. ltb (g x) j) (contents cs) ≤ j - (o + 1) = few g j cs (o + 1) (λ k x e. let l = h (suc k) x e in omega arith) in
    let at : o + 0 ≤ g x = h 0 x refl in
    rw (sum_by-cons (λ x. cond (ltb (g x) j) 1 0) x (contents cs)) (one_more_few (g x) j o _ (omega arith) ih)

-- if each of the first m cells has a pair with a near home, many homes are near
pub many : {X : Type 0} (g : X → ℕ) (j : ℕ) (cs : List (Option X)) (m : ℕ) → ((k : ℕ) → k < m → (x : X) × (cell cs k ≡ Some x) × (g x < j)) → m ≤ count_by (λ x. ltb (g x) j) (contents cs)
many g j cs zero h = omega arith
many g j [] (suc m) h = let f = h 0 (omega arith) in absurd (search rules)
many g j (None ∷ cs) (suc m) h = let f = h 0 (omega arith) in absurd (search rules)
many g j (Some x ∷ cs) (suc m) h =
    let ih : m ≤ count_by (λ x. ltb (g x) j) (contents cs) = many g j cs m (λ k l. h (suc k) (omega arith)) in
    let f = h 0 (omega arith) in
    let e : x ≡ f.0 = cc f.1 in
    rw (sum_by-cons (λ x. cond (ltb (g x) j) 1 0) x (contents cs)) (one_more_many (g x) j m _ (rw e f.2) ih)
