-- The cells of a ring in the order of their distance before a place.
use Rattle.std.proofs.Common.{◌≡◌, ℕ, ◌+◌, ◌-◌, ◌<◌, ◌≤◌, Bool, List, [], ◌∷◌, ◌++◌, Option, None, Some, length, take, drop, refl, sym, ap, ◌∙◌, subst, arith, cond}
use Rattle.std.specs.List.{count_by, sum_by}
use Rattle.std.specs.Prelude.{nat_le, if◌then◌else◌, reverse}
use Rattle.std.specs.List.Sorted.{IsPermutation}
use Rattle.std.proofs.lemmas.List.{length-take-le, length-drop, length-append, length-reverse, get_or-reverse, get_or-take, get_or-drop, get_or_append_left, get_or-append_right, take-append-drop}
use Rattle.std.proofs.lemmas.List.Sums.{sum_by-cons}
use Rattle.std.proofs.lemmas.List.Sorted.{IsPermutation-reverse, IsPermutation-append, sum_by-IsPermutation}
use Rattle.std.proofs.lemmas.Bool.Decides.{nat_tests}
use Rattle.iddqd_store.specs.Slots.{contents}
use Rattle.iddqd_store.specs.Table.Ring.{gap, cell}
use Rattle.iddqd_store.proofs.Plain.{by_order}

-- the place that lies k steps before p
abbrev pub turn : ℕ → ℕ → ℕ → ℕ
turn n p k = if nat_le k p then p - k else (p + n) - k

pub turn_below : (n p k : ℕ) → p < n → k < n → turn n p k < n
turn_below n p k a b = grind (arith, nat_tests)

pub turn_none : (n p : ℕ) → turn n p 0 ≡ p
turn_none n p = grind (arith, nat_tests)

pub turn_gap : (n p q : ℕ) → p < n → q < n → turn n p (gap n q p) ≡ q
turn_gap n p q a b = grind (arith, nat_tests)

pub gap_below : (n a b : ℕ) → a < n → b < n → gap n a b < n
gap_below n a b l m = grind (arith, nat_tests)

-- a cell that is farther after p than a home is reached from that home by way of p
pub far : (n a p k : ℕ) → a < n → p < n → k < n → gap n a p < k → gap n a p ≤ gap n a (turn n p k)
far n a p k la lp lk h = grind (arith, nat_tests)

-- a cell between a home and a cell nearer to p lies on the way
pub near : (n a p m k : ℕ) → a < n → p < n → m < n → k < m → m ≤ gap n a p → gap n a (turn n p m) ≤ gap n a (turn n p k)
near n a p m k la lp lm lk h = grind (arith, nat_tests)

abbrev pub back : {X : Type 0} → List (Option X) → ℕ → List (Option X)
back cs p = reverse (take (p + 1) cs) ++ reverse (drop (p + 1) cs)

pub length-back : {X : Type 0} (cs : List (Option X)) (p : ℕ) → p < length cs → length (back cs p) ≡ length cs
length-back cs p l =
    simp (length-append, length-reverse, length-drop) (let t : length (take (p + 1) cs) ≡ p + 1 = length-take-le (p + 1) cs (omega arith) in omega arith)

pub back_at : {X : Type 0} (cs : List (Option X)) (p k : ℕ) → p < length cs → k < length cs → cell (back cs p) k ≡ cell cs (turn (length cs) p k)
back_at cs p k l m =
    let t : length (take (p + 1) cs) ≡ p + 1 = length-take-le (p + 1) cs (omega arith) in
    let r : length (reverse (take (p + 1) cs)) ≡ p + 1 = length-reverse (take (p + 1) cs) ∙ t in
    let d : length (drop (p + 1) cs) ≡ length cs - (p + 1) = length-drop (p + 1) cs in
    by_order k (p + 1) (λ (h : k < p + 1).
    let a : cell (back cs p) k ≡ cell (reverse (take (p + 1) cs)) k = get_or_append_left _ _ None k (omega arith) in
    let b : cell (reverse (take (p + 1) cs)) k ≡ cell (take (p + 1) cs) (length (take (p + 1) cs) - 1 - k) = get_or-reverse (take (p + 1) cs) k None (omega arith) in
    let e : length (take (p + 1) cs) - 1 - k ≡ turn (length cs) p k = grind (arith, nat_tests) in
    let c : cell (take (p + 1) cs) (turn (length cs) p k) ≡ cell cs (turn (length cs) p k) = get_or-take (p + 1) cs _ None (grind (arith, nat_tests)) in
    a ∙ (b ∙ (ap (cell (take (p + 1) cs)) e ∙ c)))
    (λ (h : p + 1 ≤ k).
    let a : cell (back cs p) k ≡ cell (reverse (drop (p + 1) cs)) (k - (p + 1)) = get_or-append_right _ _ (p + 1) k None r h in
    let b : cell (reverse (drop (p + 1) cs)) (k - (p + 1)) ≡ cell (drop (p + 1) cs) (length (drop (p + 1) cs) - 1 - (k - (p + 1))) =
    get_or-reverse (drop (p + 1) cs) (k - (p + 1)) None (omega arith) in
    let c : cell (drop (p + 1) cs) (length (drop (p + 1) cs) - 1 - (k - (p + 1))) ≡ cell cs ((p + 1) + (length (drop (p + 1) cs) - 1 - (k - (p + 1)))) = get_or-drop (p + 1) cs _ None in
    let e : (p + 1) + (length (drop (p + 1) cs) - 1 - (k - (p + 1))) ≡ turn (length cs) p k = grind (arith, nat_tests) in
    a ∙ (b ∙ (c ∙ ap (cell cs) e)))

abbrev pub weight : {X : Type 0} → (X → Bool) → Option X → ℕ
weight q None = 0
weight q (Some x) = cond (q x) 1 0

pub count-held_items : {X : Type 0} (q : X → Bool) (cs : List (Option X)) → count_by q (contents cs) ≡ sum_by (weight q) cs
count-held_items q [] = refl
count-held_items q (None ∷ cs) = count-held_items q cs ∙ sym (sum_by-cons (weight q) None cs ∙ omega arith)
count-held_items q (Some x ∷ cs) = sum_by-cons (λ x. cond (q x) 1 0) x (contents cs) ∙ (ap (λ (m : ℕ). cond (q x) 1 0 + m) (count-held_items q cs) ∙ sym (sum_by-cons (weight q) (Some x) cs))

IsPermutation-back : {X : Type 0} (cs : List (Option X)) (p : ℕ) → IsPermutation cs (back cs p)
IsPermutation-back cs p =
    subst (λ (xs : List _). IsPermutation xs (back cs p)) (take-append-drop (p + 1) cs)
    (IsPermutation-append _ _ _ _ (IsPermutation-reverse (take (p + 1) cs)) (IsPermutation-reverse (drop (p + 1) cs)))

pub count-back : {X : Type 0} (q : X → Bool) (cs : List (Option X)) (p : ℕ) → count_by q (contents (back cs p)) ≡ count_by q (contents cs)
count-back q cs p = count-held_items q (back cs p) ∙ (sum_by-IsPermutation (weight q) cs (back cs p) (IsPermutation-back cs p) ∙ sym (count-held_items q cs))
