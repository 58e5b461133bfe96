-- A pair that gets another number in its cell, and pairs that stay.
use Rattle.std.proofs.Common.{◌≡◌, ℕ, suc, zero, Contains, ◌<◌, ◌≤◌, ◌%◌, List, ◌∷◌, Option, None, Some, length, set, refl, sym, ap, ◌∙◌, subst, arith}
use Rattle.std.specs.Prelude.{◌≢◌}
use Rattle.std.specs.List.Sorted.{IsPermutation}
use Rattle.std.proofs.lemmas.List.{length-set, get_or-set_same, get_or-set_other}
use Rattle.std.proofs.lemmas.List.Sorted.{Contains-permutation, length_permutation}
use Rattle.iddqd_store.specs.Slots.{contents}
use Rattle.iddqd_store.specs.Table.Ring.{cell, gap, IsReached}
use Rattle.iddqd_store.specs.Table.{IsTable, ReplacesPair}
use Rattle.iddqd_store.proofs.Plain.{by_equal}
use Rattle.iddqd_store.proofs.SlotLemmas.Contents.{contents-set, contents-take}

pub renumbered : (row : List (Option (ℕ × ℕ))) (at hash from to : ℕ) → at < length row → cell row at ≡ Some (hash, from)
    → ReplacesPair (contents row) (contents (set row at (Some (hash, to)))) (hash, from) (hash, to)
renumbered row at hash from to l is = record {
  others = contents (set row at None);
  had = contents-take row at (hash, from) is;
  has = contents-set row at (hash, to) l;
}

-- if the home stays, each pair is still reached
reached_over : {X : Type 0} (home : X → ℕ) (n : ℕ) (cs : List (Option X)) (at : ℕ) (x y : X) → length cs ≡ n → at < n → cell cs at ≡ Some x
    → home y ≡ home x → IsReached home n cs → IsReached home n (set cs at (Some y))
reached_over {X} home n cs at x y len la is same reached q z lq e i li h none =
    let here : cell (set cs at (Some y)) at ≡ Some y = get_or-set_same cs at (Some y) None (omega arith) in
    by_equal i at (λ (ia : i ≡ at). let w : cell (set cs at (Some y)) at ≡ None = ap (cell (set cs at (Some y))) (sym ia) ∙ none in cc (w, here))
    (λ (ia : i ≢ at).
    let gone : cell cs i ≡ None = sym (get_or-set_other cs at i (Some y) None ia) ∙ none in
    by_equal q at (λ (qa : q ≡ at).
    let s : Some z ≡ Some y = sym e ∙ (ap (cell (set cs at (Some y))) qa ∙ here) in
    let zy : z ≡ y = cc s in
    let homes : home z ≡ home x = ap home zy ∙ same in
    let l : gap n (home x) i ≤ gap n (home x) at = subst (λ (p : ℕ). gap n p i ≤ gap n p at) homes (subst (λ (p : ℕ). gap n (home z) i ≤ gap n (home z) p) qa h) in
    reached at x la is i li l gone)
    (λ (qa : q ≢ at). reached q z lq (sym (get_or-set_other cs at q (Some y) None qa) ∙ e) i li h gone))

pub table_renumbered : (row : List (Option (ℕ × ℕ))) (at hash from to : ℕ) → IsTable row → at < length row → cell row at ≡ Some (hash, from) → IsTable (set row at (Some (hash, to)))
table_renumbered row at hash from to t l is =
    let n : ℕ = length row in
    let replaced = renumbered row at hash from to l is in
    let had : length ((hash, from) ∷ replaced.others) ≡ length (contents row) = length_permutation _ _ replaced.had in
    let has : length ((hash, to) ∷ replaced.others) ≡ length (contents (set row at (Some (hash, to)))) = length_permutation _ _ replaced.has in
    let len : length (set row at (Some (hash, to))) ≡ n = length-set row at (Some (hash, to)) in
    record {
      size = rw len t.size;
      fits = rw len (let f = t.fits in omega (arith, had, has, f));
      reached = subst (λ (m : ℕ). IsReached (λ (p : ℕ × ℕ). p.0 % m) m (set row at (Some (hash, to)))) (sym len)
          (reached_over (λ (p : ℕ × ℕ). p.0 % n) n row at (hash, from) (hash, to) refl l is refl t.reached);
    }

-- a pair that stays when another one leaves
pub stays : (pairs rest : List (ℕ × ℕ)) (gone pair : ℕ × ℕ) → IsPermutation pairs (gone ∷ rest) → Contains pairs pair → pair.1 ≢ gone.1 → Contains rest pair
stays pairs rest gone pair taken there apart = behind (Contains-permutation _ _ _ taken there)
  where
    behind : Contains (gone ∷ rest) pair → Contains rest pair
    behind (zero, lt, is) = absurd (apart (ap (λ (p : ℕ × ℕ). p.1) (sym is)))
    behind (suc k, lt, is) = (k, omega arith, is)
