-- A cell is occupied exactly if its place is full.
use Rattle.std.proofs.Common.{◌≡◌, ℕ, suc, zero, ◌+◌, ◌-◌, ◌<◌, ◌≤◌, ◌%◌, Bool, ltb, List, [], ◌∷◌, Option, None, Some, length, map, refl, sym, ap, ◌∙◌, subst, ⊎_elim, arith, cond}
use Rattle.std.specs.List.{count_by}
use Rattle.std.specs.Prelude.{◌≢◌, ◌↔◌}
use Rattle.std.proofs.lemmas.List.Sums.{sum_by-cons}
use Rattle.std.proofs.lemmas.List.{get_or_past}
use Rattle.iddqd_store.specs.Slots.{contents}
use Rattle.iddqd_store.specs.Table.Ring.{gap, IsFull, cell, IsReached}
use Rattle.iddqd_store.proofs.Plain.{by_order}
use Rattle.iddqd_store.proofs.TableLemmas.Line.{cases_option, few, many}
use Rattle.iddqd_store.proofs.TableLemmas.Ring.{turn, turn_below, turn_none, turn_gap, gap_below, far, near, back, length-back, back_at, count-back}

abbrev FirstEmpty : {X : Type 0} → List (Option X) → ℕ → Type 0
FirstEmpty cs e = (m : ℕ) × (m ≤ e) × (cell cs m ≡ None) × ((k : ℕ) → k < m → cell cs k ≢ None)

pub first_empty : {X : Type 0} (cs : List (Option X)) (e : ℕ) → cell cs e ≡ None → FirstEmpty cs e
first_empty [] e h = (0, omega arith, refl, λ k l. absurd (omega arith))
first_empty (None ∷ cs) e h = (0, omega arith, refl, λ k l. absurd (omega arith))
first_empty (Some x ∷ cs) zero h = absurd (cc h)
first_empty {X} (Some x ∷ cs) (suc e) h =
    let f : FirstEmpty cs e = first_empty cs e h in
    (suc f.0, omega arith, f.2, shifted x cs f.0 f.3)
  where
    shifted : (x : X) (cs : List (Option X)) (m : ℕ) → ((k : ℕ) → k < m → cell cs k ≢ None) → (k : ℕ) → k < suc m → cell (Some x ∷ cs) k ≢ None
    shifted x cs m f zero l = λ e. cc e
    shifted x cs m f (suc k) l = f k (omega arith)

few_at_empty : {X : Type 0} (g : X → ℕ) (j : ℕ) (cs : List (Option X)) → cell cs 0 ≡ None → ((k : ℕ) (x : X) → cell cs k ≡ Some x → k ≤ g x) → 1 ≤ j → count_by (λ x. ltb (g x) j) (contents cs) < j
few_at_empty g j [] e h l = omega arith
few_at_empty g j (None ∷ cs) e h l =
    let f : count_by (λ x. ltb (g x) j) (contents cs) ≤ j - 1 = few g j cs 1 (λ k x i. let a = h (suc k) x i in omega arith) in
    omega arith
few_at_empty g j (Some x ∷ cs) e h l = absurd (cc e)

-- how many of the pairs have their home among the j places that end with p
abbrev near_homes : {X : Type 0} → (X → ℕ) → ℕ → List (Option X) → ℕ → ℕ → ℕ
near_homes home n cs p j = count_by (λ x. ltb (gap n (home x) p) j) (contents cs)

pub empty_not_full : {X : Type 0} (home : X → ℕ) (n : ℕ) (cs : List (Option X)) → length cs ≡ n → ((x : X) → home x < n) → IsReached home n cs
    → (p : ℕ) → p < n → cell cs p ≡ None → (j : ℕ) → 1 ≤ j → near_homes home n cs p j < j
empty_not_full {X} home n cs len homes reached p lp none j lj =
    let lb : length (back cs p) ≡ n = length-back cs p (omega arith) ∙ len in
    let at : (k : ℕ) → k < n → cell (back cs p) k ≡ cell cs (turn n p k) = λ k l. rw len at (back_at cs p k (omega arith) (omega arith)) in
    let zero_none : cell (back cs p) 0 ≡ None = at 0 (omega arith) ∙ (ap (cell cs) (turn_none n p) ∙ none) in
    let behind : (k : ℕ) (x : X) → cell (back cs p) k ≡ Some x → k ≤ gap n (home x) p = λ k x e.
    by_order k n (λ (lk : k < n).
    by_order (gap n (home x) p) k (λ (h : gap n (home x) p < k). absurd (reached (turn n p k) x (turn_below n p k lp lk) (sym (at k lk) ∙ e) p lp (far n (home x) p k (homes x) lp lk h) none))
    (λ (h : k ≤ gap n (home x) p). h))
    (λ (lk : n ≤ k). let p0 : cell (back cs p) k ≡ None = get_or_past (back cs p) k None (omega arith) in absurd (cc (p0, e))) in
    rw (← (count-back (λ x. ltb (gap n (home x) p) j) cs p)) (few_at_empty (λ x. gap n (home x) p) j (back cs p) zero_none behind lj)

abbrev NearFull : {X : Type 0} → (X → ℕ) → ℕ → List (Option X) → ℕ → Type 0
NearFull home n cs p = (j : ℕ) × (1 ≤ j) × (j ≤ n) × (j ≤ near_homes home n cs p j)

pub occupied_is_full : {X : Type 0} (home : X → ℕ) (n : ℕ) (cs : List (Option X)) → length cs ≡ n → ((x : X) → home x < n) → IsReached home n cs
    → (e : ℕ) → e < n → cell cs e ≡ None → (p : ℕ) → p < n → cell cs p ≢ None → NearFull home n cs p
occupied_is_full {X} home n cs len homes reached e le none p lp some =
    let at : (k : ℕ) → k < n → cell (back cs p) k ≡ cell cs (turn n p k) = λ k l. rw len at (back_at cs p k (omega arith) (omega arith)) in
    let ge : gap n e p < n = gap_below n e p le lp in
    let gone : cell (back cs p) (gap n e p) ≡ None = at (gap n e p) ge ∙ (ap (cell cs) (turn_gap n p e lp le) ∙ none) in
    let f : FirstEmpty (back cs p) (gap n e p) = first_empty (back cs p) (gap n e p) gone in
    let m : ℕ = f.0 in
    let lm : m < n = omega arith in
    let one : 1 ≤ m = by_order m 1 (λ (h : m < 1).
    absurd (some (sym (ap (cell cs) (turn_none n p)) ∙ (sym (at 0 (omega arith)) ∙ subst (λ (i : ℕ). cell (back cs p) i ≡ None) (omega arith) f.2))))
    (λ (h : 1 ≤ m). h) in
    let each : (k : ℕ) → k < m → (x : X) × (cell (back cs p) k ≡ Some x) × (gap n (home x) p < m) = λ k lk.
    ⊎_elim (λ (z : cell (back cs p) k ≡ None). absurd (f.3 k lk z))
    (λ (s : (x : X) × (cell (back cs p) k ≡ Some x)). (
      s.0,
      s.1,
      by_order (gap n (home s.0) p) m (λ (h : gap n (home s.0) p < m). h)
          (λ (h : m ≤ gap n (home s.0) p).
          absurd (reached (turn n p k) s.0 (turn_below n p k lp (omega arith)) (sym (at k (omega arith)) ∙ s.1) (turn n p m) (turn_below n p m lp lm)
          (near n (home s.0) p m k (homes s.0) lp lm lk h) (sym (at m lm) ∙ f.2))),
    ))
    (cases_option (cell (back cs p) k)) in
    (m, one, omega arith, rw (← (count-back (λ x. ltb (gap n (home x) p) m) cs p)) (many (λ x. gap n (home x) p) m (back cs p) m each))

count-map : {X : Type 0} (f : X → ℕ) (q : ℕ → Bool) (xs : List X) → count_by q (map f xs) ≡ count_by (λ x. q (f x)) xs
count-map f q [] = refl
count-map f q (x ∷ xs) = sum_by-cons (λ y. cond (q y) 1 0) (f x) (map f xs) ∙ (ap (λ (m : ℕ). cond (q (f x)) 1 0 + m) (count-map f q xs) ∙ sym (sum_by-cons (λ y. cond (q (f y)) 1 0) x xs))

-- a cell is occupied exactly if its place is full
pub occupied_exactly_full : {X : Type 0} (key : X → ℕ) (n : ℕ) (cs : List (Option X)) → length cs ≡ n → 0 < n → IsReached (λ x. key x % n) n cs
    → (e : ℕ) → e < n → cell cs e ≡ None → (p : ℕ) → p < n → (cell cs p ≢ None) ↔ IsFull (map key (contents cs)) n p
occupied_exactly_full {X} key n cs len pos reached e le none p lp =
    let homes : (x : X) → key x % n < n = λ x. omega arith in (
      λ some. let f = occupied_is_full (λ x. key x % n) n cs len homes reached e le none p lp some in
          (f.0, f.1, f.2, rw (count-map key (λ h. ltb (gap n (h % n) p) f.0) (contents cs)) f.3),
      λ full z. let g = empty_not_full (λ x. key x % n) n cs len homes reached p lp z full.0 full.1 in
          let h : full.0 ≤ near_homes (λ x. key x % n) n cs p full.0 = rw (count-map key (λ h. ltb (gap n (h % n) p) full.0) (contents cs)) at full.3 in
          omega arith,
    )
