-- A pair that replaces another one: with the same hash, or put beside it before it leaves.
use Rattle.std.specs.Prelude.{◌≡◌, ℕ, ◌==◌, ◌&&◌, Bool, true, not, cond, List, [], ◌∷◌, ◌++◌, length, filter, replicate, Contains}
use Rattle.std.specs.List.{remove}
use Rattle.std.specs.List.Sorted.{IsPermutation}
use Rattle.std.proofs.Common.{refl, sym, ap, subst, ◌∙◌, arith}
use Rattle.std.proofs.lemmas.Bool.Decides.{nat_tests}
use Rattle.std.proofs.lemmas.List.Sorted.{IsPermutation-append, IsPermutation-cons, IsPermutation-filter_both, IsPermutation-middle, IsPermutation-refl, IsPermutation-remove}
use Rattle.std.proofs.lemmas.List.Sorted.{IsPermutation-sym, IsPermutation-trans, length_permutation}
use Rattle.iddqd_store.specs.Table.{ReplacesPair}
use Rattle.iddqd_store.proofs.BagLemmas.Exchanges.{IsPermutation-filter, split}

-- a pair that stays
pub stays : (pairs : List (ℕ × ℕ)) (h k index : ℕ) → Contains pairs (h, index) → h ≡ k → ReplacesPair pairs pairs (h, index) (k, index)
stays pairs h k index there same =
    let out : IsPermutation pairs ((h, index) ∷ remove pairs there.0) = IsPermutation-remove pairs there.0 (h, index) there.1 (sym there.2) in
    record {
      others = remove pairs there.0;
      had = out;
      has = subst (λ (m : ℕ). IsPermutation pairs ((m, index) ∷ remove pairs there.0)) same out;
    }

abbrev same : ℕ × ℕ → ℕ × ℕ → Bool
same p q = (p.0 == q.0) && (p.1 == q.1)

same_from : (p q : ℕ × ℕ) → same p q ≡ true → q ≡ p
same_from (a, b) (c, d) is =
    let first : c ≡ a = grind (arith, nat_tests, is) in
    let second : d ≡ b = grind (arith, nat_tests, is) in
    rw (first, second) refl

same_itself : (p : ℕ × ℕ) → same p p ≡ true
same_itself (a, b) = grind (arith, nat_tests)

-- those that are the same as a pair are so many copies of it
copies : (p : ℕ × ℕ) (xs : List (ℕ × ℕ)) → filter (same p) xs ≡ replicate (length (filter (same p) xs)) p
copies p [] = refl
copies p (x ∷ xs) =
    let left = filter (same p) xs in
    split (λ b. cond b (x ∷ left) left ≡ replicate (length (cond b (x ∷ left) left)) p) (same p x)
    (λ is. ap (λ (l : List (ℕ × ℕ)). x ∷ l) (copies p xs) ∙ ap (λ (q : ℕ × ℕ). q ∷ replicate (length left) p) (same_from p x is))
    (λ other. copies p xs)

-- what is left of two lists with the same pairs if both lose one
cancelled : (p : ℕ × ℕ) (a b : List (ℕ × ℕ)) → IsPermutation (p ∷ a) (p ∷ b) → IsPermutation a b
cancelled p a b all =
    let other = λ (q : ℕ × ℕ). not (same p q) in
    let is = same_itself p in
    let ones : IsPermutation (p ∷ filter (same p) a) (p ∷ filter (same p) b) = rw is at (IsPermutation-filter (same p) (p ∷ a) (p ∷ b) all) in
    let others : IsPermutation (filter other a) (filter other b) = rw is at (IsPermutation-filter other (p ∷ a) (p ∷ b) all) in
    let as_many : length (filter (same p) a) ≡ length (filter (same p) b) = let long = length_permutation _ _ ones in omega (arith, long) in
    let equal = copies p a ∙ ap (λ (n : ℕ). replicate n p) as_many ∙ sym (copies p b) in
    let parts : IsPermutation (filter (same p) a ++ filter other a) (filter (same p) b ++ filter other b) =
    IsPermutation-append _ _ _ _ (subst (IsPermutation (filter (same p) a)) equal (IsPermutation-refl _)) others in
    IsPermutation-trans _ _ _ (IsPermutation-filter_both (same p) other (λ q. refl) a)
    (IsPermutation-trans _ _ _ parts (IsPermutation-sym _ _ (IsPermutation-filter_both (same p) other (λ q. refl) b)))

-- a pair is put in, and then another one leaves
pub put_and_taken : {old mid new : List (ℕ × ℕ)} {before after : ℕ × ℕ} → Contains old before → IsPermutation (after ∷ old) mid → IsPermutation mid (before ∷ new) → ReplacesPair old new before after
put_and_taken {old = old} {new = new} {before = before} {after = after} there put taken =
    let others = remove old there.0 in
    let out : IsPermutation old (before ∷ others) = IsPermutation-remove old there.0 before there.1 (sym there.2) in
    let turned : IsPermutation (after ∷ before ∷ others) (before ∷ after ∷ others) = IsPermutation-middle (after ∷ []) before others in
    let into = IsPermutation-trans _ _ _ put taken in
    let all = IsPermutation-trans _ _ _ (IsPermutation-sym _ _ into) (IsPermutation-trans _ _ _ (IsPermutation-cons after _ _ out) turned) in
    record {
      others = others;
      had = out;
      has = cancelled before new (after ∷ others) all;
    }
