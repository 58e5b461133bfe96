-- What a write to one cell does.
use Rattle.std.proofs.Common.{◌≡◌, ℕ, ◌+◌, ◌*◌, ◌/◌, ◌<◌, ◌≤◌, ◌%◌, List, [], ◌∷◌, ◌++◌, Option, None, Some, length, set, take, drop, refl, sym, ap, ◌∙◌, subst, arith}
use Rattle.std.specs.Prelude.{◌≢◌}
use Rattle.std.specs.List.Sorted.{IsPermutation}
use Rattle.std.proofs.lemmas.List.Elements.{filter_map-append}
use Rattle.std.proofs.lemmas.List.{take_more, append-nil, take-append-drop, length-append, length-set, get_or-set_same, get_or-set_other}
use Rattle.std.proofs.lemmas.List.Sorted.{IsPermutation-trans, length_permutation}
use Rattle.iddqd_store.specs.Slots.{contents}
use Rattle.iddqd_store.specs.Table.Ring.{gap, cell, IsReached}
use Rattle.iddqd_store.specs.Table.{IsTable, IsFirstEmpty}
use Rattle.iddqd_store.proofs.Plain.{by_equal}
use Rattle.iddqd_store.proofs.TableLemmas.Stretch.{place, place_gap}
use Rattle.iddqd_store.proofs.SlotLemmas.Contents.{contents-put, contents-take}

pub same_gap : (n a i j : ℕ) → a < n → i < n → j < n → gap n a i ≡ gap n a j → i ≡ j
same_gap n a i j la li lj e = sym (place_gap n a i la li) ∙ (ap (place n a) e ∙ place_gap n a j la lj)

pub reached_put : {X : Type 0} (home : X → ℕ) (n : ℕ) (cs : List (Option X)) (at : ℕ) (x : X) → length cs ≡ n → ((y : X) → home y < n) → at < n → cell cs at ≡ None
    → ((q : ℕ) → q < n → gap n (home x) q < gap n (home x) at → cell cs q ≢ None) → IsReached home n cs → IsReached home n (set cs at (Some x))
reached_put {X} home n cs at x len homes la none first reached q y lq e i li h z =
    let here : cell (set cs at (Some x)) at ≡ Some x = get_or-set_same cs at (Some x) None (omega arith) in
    by_equal i at (λ (ia : i ≡ at). let w : cell (set cs at (Some x)) at ≡ None = ap (cell (set cs at (Some x))) (sym ia) ∙ z in cc (w, here))
    (λ (ia : i ≢ at).
    let old : cell (set cs at (Some x)) i ≡ cell cs i = get_or-set_other cs at i (Some x) None ia in
    let gone : cell cs i ≡ None = sym old ∙ z in
    by_equal q at (λ (qa : q ≡ at).
    let s : Some y ≡ Some x = sym e ∙ (ap (cell (set cs at (Some x))) qa ∙ here) in
    let yx : y ≡ x = cc s in
    let l : gap n (home x) i ≤ gap n (home x) at = subst (λ (u : X). gap n (home u) i ≤ gap n (home u) at) yx (subst (λ (p : ℕ). gap n (home y) i ≤ gap n (home y) p) qa h) in
    let ne : gap n (home x) i ≢ gap n (home x) at = λ g. ia (same_gap n (home x) i at (homes x) li la g) in
    first i li (omega (arith, l, ne)) gone)
    (λ (qa : q ≢ at). reached q y lq (sym (get_or-set_other cs at q (Some x) None qa) ∙ e) i li h gone))

pub table_put : (row : List (Option (ℕ × ℕ))) (at hash index : ℕ) → IsTable row → length (contents row) < length row / 8 * 7
    → IsFirstEmpty row (hash % length row) at → IsTable (set row at (Some (hash, index)))
table_put row at hash index t l f =
    let n : ℕ = length row in
    let some : 0 < n = let b = f.below in omega arith in
    let p : length (contents (set row at (Some (hash, index)))) ≡ length (contents row) + 1 = length_permutation _ _ (contents-put row at (hash, index) f.below f.empty) ∙ omega arith in
    let len : length (set row at (Some (hash, index))) ≡ n = length-set row at (Some (hash, index)) in
    record {
      size = rw len t.size;
      fits = rw (p, len) (omega arith);
      reached = subst (λ (m : ℕ). IsReached (λ (p : ℕ × ℕ). p.0 % m) m (set row at (Some (hash, index)))) (sym len)
          (reached_put (λ (p : ℕ × ℕ). p.0 % n) n row at (hash, index) refl (λ y. omega arith) f.below f.empty f.first t.reached);
    }

-- a pair that is moved into an empty cell
pub held_move : {X : Type 0} (cs : List (Option X)) (at hole : ℕ) (x : X) → at < length cs → hole < length cs → cell cs at ≡ Some x
    → cell cs hole ≡ None → IsPermutation (contents cs) (contents (set (set cs at None) hole (Some x)))
held_move cs at hole x la lh e none =
    let apart : hole ≢ at = λ c. let d : cell cs hole ≡ cell cs at = ap (cell cs) c in cc (d, e, none) in
    IsPermutation-trans _ _ _ (contents-take cs at x e) (contents-put (set cs at None) hole x (rw length-set lh) (get_or-set_other cs at hole None None apart ∙ none))

pub held_more : {X : Type 0} (cs : List (Option X)) (i : ℕ) (x : X) → i < length cs → cell cs i ≡ Some x → contents (take (i + 1) cs) ≡ contents (take i cs) ++ x ∷ []
held_more cs i x l e =
    ap contents (take_more cs i None l) ∙ (ap (λ (o : Option _). contents (take i cs ++ o ∷ [])) e ∙ filter_map-append (λ c. c) (take i cs) (Some x ∷ []))

pub held_no_more : {X : Type 0} (cs : List (Option X)) (i : ℕ) → i < length cs → cell cs i ≡ None → contents (take (i + 1) cs) ≡ contents (take i cs)
held_no_more cs i l e =
    ap contents (take_more cs i None l) ∙ (ap (λ (o : Option _). contents (take i cs ++ o ∷ [])) e ∙ (filter_map-append (λ c. c) (take i cs) (None ∷ []) ∙ append-nil (contents (take i cs))))

pub held_front : {X : Type 0} (cs : List (Option X)) (i : ℕ) → length (contents (take i cs)) ≤ length (contents cs)
held_front cs i =
    let e : contents cs ≡ contents (take i cs) ++ contents (drop i cs) = ap contents (sym (take-append-drop i cs)) ∙ filter_map-append (λ c. c) (take i cs) (drop i cs) in
    let l : length (contents cs) ≡ length (contents (take i cs)) + length (contents (drop i cs)) = ap length e ∙ length-append (contents (take i cs)) (contents (drop i cs)) in
    omega arith
