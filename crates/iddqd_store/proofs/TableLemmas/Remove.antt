-- The hole that a deletion leaves and moves on.
use Rattle.std.proofs.Common.{◌≡◌, ℕ, ◌+◌, ◌<◌, ◌≤◌, List, Option, None, Some, length, set, sym, ap, ◌∙◌, subst, inl, inr, ⊎_elim, arith}
use Rattle.std.specs.Prelude.{◌≢◌, ◌⊎◌}
use Rattle.std.proofs.lemmas.List.{length-set, get_or-set_same, get_or-set_other, set-set, set_comm}
use Rattle.std.proofs.lemmas.Bool.Decides.{nat_tests}
use Rattle.iddqd_store.specs.Table.Ring.{gap, cell, IsReached}
use Rattle.iddqd_store.proofs.Plain.{by_equal, by_order}
use Rattle.iddqd_store.proofs.TableLemmas.Write.{same_gap}

-- a way that leads through p and then past a's end to q leads over each place from p on
pub wraps : (n a h p q e : ℕ) → a < n → h < n → p < n → q < n → e < n → gap n h p ≤ gap n h q → gap n a q < gap n a p → gap n a p ≤ gap n a e → gap n h e ≤ gap n h q
wraps n a h p q e la lh lp lq le x y z = grind (arith, nat_tests)

-- a way that leads through p to q leads over each place between them
pub between : (n a h p m q : ℕ) → a < n → h < n → p < n → m < n → q < n → gap n h p ≤ gap n h q → gap n a p ≤ gap n a m → gap n a m ≤ gap n a q → gap n h m ≤ gap n h q
between n a h p m q la lh lp lm lq x y z = grind (arith, nat_tests)

-- the distance of a place from q says whether it is on the way from h to q
pub reaches : (n a h o q far : ℕ) → a < n → h < n → o < n → q < n → 0 < far → far + gap n a o ≡ gap n a q → far ≤ gap n h q → gap n h o ≤ gap n h q
reaches n a h o q far la lh lo lq pos e l = grind (arith, nat_tests)

pub falls_short : (n a h o q far : ℕ) → a < n → h < n → o < n → q < n → 0 < far → far + gap n a o ≡ gap n a q → gap n h q < far → gap n h q < gap n h o
falls_short n a h o q far la lh lo lq pos e l = grind (arith, nat_tests)

-- what was at a place moves into the hole, whatever it is
pub left_behind : {X : Type 0} (cs : List (Option X)) (hole at : ℕ) (y : X) → at ≢ hole → set (set cs hole (Some y)) at None ≡ set (set (set cs hole None) at None) hole (Some y)
left_behind cs hole at y apart =
    sym (set_comm (set cs hole None) at hole None (Some y) apart ∙ ap (λ (r : List (Option _)). set r at None) (set-set cs hole None (Some y)))

-- Row is the old row with a hole, which a walk from a on has moved for s steps.
pub record Holed {X : Type 0} (home : X → ℕ) (n a hole s : ℕ) (old row : List (Option X)) : Type 0 where
  pub len : length row ≡ n
  pub below : hole < n
  pub behind : gap n a hole < s
  pub empty : cell row hole ≡ None
  pub ahead : (q : ℕ) → q < n → s ≤ gap n a q → cell row q ≡ cell old q
  pub ways : (q : ℕ) (y : X) → q < n → cell row q ≡ Some y → (i : ℕ) → i < n → gap n (home y) i ≤ gap n (home y) q → (cell row i ≢ None) ⊎ ((i ≡ hole) × (s ≤ gap n a q))

module _ {X : Type 0} (home : X → ℕ) (n a : ℕ) (la : a < n) (homes : (x : X) → home x < n) where
  pub holed_start : (old : List (Option X)) (r e s : ℕ) → length old ≡ n → IsReached home n old → r < n → e < n → cell old e ≡ None
      → gap n a r < gap n a e → s ≡ gap n a r + 1 → Holed home n a r s old (set old r None)
  holed_start old r e s len reached lr le none far es = record {
    len = length-set old r None ∙ len;
    below = lr;
    behind = omega arith;
    empty = get_or-set_same old r None None (omega arith);
    ahead = λ q lq h. get_or-set_other old r q None None (λ qr. let g : gap n a q ≡ gap n a r = ap (gap n a) qr in omega arith);
    ways = λ q y lq is i li way.
        by_equal q r (λ (qr : q ≡ r). let z : cell (set old r None) r ≡ None = get_or-set_same old r None None (omega arith) in
        let w : cell (set old r None) r ≡ Some y = ap (cell (set old r None)) (sym qr) ∙ is in absurd (cc (z, w)))
        (λ (qr : q ≢ r).
        let was : cell old q ≡ Some y = sym (get_or-set_other old r q None None qr) ∙ is in
        by_equal i r (λ (ir : i ≡ r).
        by_order (gap n a q) (gap n a r) (λ (h : gap n a q < gap n a r).
        let w : gap n (home y) r ≤ gap n (home y) q = subst (λ (p : ℕ). gap n (home y) p ≤ gap n (home y) q) ir way in
        absurd (reached q y lq was e le (wraps n a (home y) r q e la (homes y) lr lq le w h (omega arith)) none))
        (λ (h : gap n a r ≤ gap n a q).
        let ne : gap n a q ≢ gap n a r = λ g. qr (same_gap n a q r la lq lr g) in
        inr (ir, omega (arith, h, ne))))
        (λ (ir : i ≢ r). inl (λ z. reached q y lq was i li way (sym (get_or-set_other old r i None None ir) ∙ z))));
  }

  pub holed_pass : (old row : List (Option X)) (hole at s t : ℕ) (y : X) → Holed home n a hole s old row → at < n → gap n a at ≡ s
      → cell row at ≡ Some y → gap n (home y) at < gap n (home y) hole → t ≡ s + 1 → Holed home n a hole t old row
  holed_pass old row hole at s t y h lat ga there stays et = record {
    len = h.len;
    below = h.below;
    behind = let b = h.behind in omega arith;
    empty = h.empty;
    ahead = λ q lq l. h.ahead q lq (omega arith);
    ways = λ q z lq is i li way.
        ⊎_elim (λ (o : cell row i ≢ None). inl o)
        (λ (b : (i ≡ hole) × (s ≤ gap n a q)).
        by_equal q at (λ (qa : q ≡ at).
        let w : cell row at ≡ Some z = ap (cell row) (sym qa) ∙ is in
        let zy : z ≡ y = cc (w, there) in
        let l : gap n (home y) hole ≤ gap n (home y) at = subst (λ (u : X). gap n (home u) hole ≤ gap n (home u) at) zy
        (subst (λ (p : ℕ). gap n (home z) hole ≤ gap n (home z) p) qa (subst (λ (p : ℕ). gap n (home z) p ≤ gap n (home z) q) b.0 way)) in
        absurd (omega arith))
        (λ (qa : q ≢ at).
        let ne : gap n a q ≢ gap n a at = λ g. qa (same_gap n a q at la lq lat g) in
        inr (b.0, omega (arith, b.1, ne))))
        (h.ways q z lq is i li way);
  }

  abbrev moved : List (Option X) → ℕ → ℕ → X → List (Option X)
  moved row hole at y = set (set row at None) hole (Some y)

  pub holed_move : (old row : List (Option X)) (hole at e s t : ℕ) (y : X) → Holed home n a hole s old row → at < n → gap n a at ≡ s → cell row at ≡ Some y → gap n (home y) hole ≤ gap n (home y) at
      → e < n → cell old e ≡ None → s < gap n a e → t ≡ s + 1 → Holed home n a at t old (set (set row at None) hole (Some y))
  holed_move old row hole at e s t y h lat ga there goes le none far et =
      let lb : length (set row at None) ≡ n = length-set row at None ∙ h.len in
      let apart : at ≢ hole = λ c. let g : gap n a at ≡ gap n a hole = ap (gap n a) c in let b = h.behind in omega arith in
      let in_hole : cell (moved row hole at y) hole ≡ Some y = get_or-set_same (set row at None) hole (Some y) None (let b = h.below in omega arith) in
      let in_at : cell (moved row hole at y) at ≡ None = get_or-set_other (set row at None) hole at (Some y) None apart ∙ get_or-set_same row at None None (let l = h.len in omega arith) in
      let other : (i : ℕ) → i ≢ hole → i ≢ at → cell (moved row hole at y) i ≡ cell row i =
      λ i ih ia. get_or-set_other (set row at None) hole i (Some y) None ih ∙ get_or-set_other row at i None None ia in
      let e_row : cell row e ≡ None = h.ahead e le (omega arith) ∙ none in
      let e_not_hole : e ≢ hole = λ c. let g : gap n a e ≡ gap n a hole = ap (gap n a) c in let b = h.behind in omega arith in
      record {
        len = length-set (set row at None) hole (Some y) ∙ lb;
        below = lat;
        behind = omega arith;
        empty = in_at;
        ahead = λ q lq l. other q (λ c. let g : gap n a q ≡ gap n a hole = ap (gap n a) c in let b = h.behind in omega arith)
            (λ c. let g : gap n a q ≡ gap n a at = ap (gap n a) c in omega arith) ∙ h.ahead q lq (omega arith);
        ways = λ q z lq is i li way.
            by_equal i hole (λ (ih : i ≡ hole). inl (λ w. let v : cell (moved row hole at y) hole ≡ None = ap (cell (moved row hole at y)) (sym ih) ∙ w in cc (v, in_hole)))
            (λ (ih : i ≢ hole).
            by_equal q hole (λ (qh : q ≡ hole).
            let w : cell (moved row hole at y) hole ≡ Some z = ap (cell (moved row hole at y)) (sym qh) ∙ is in
            let zy : z ≡ y = cc (w, in_hole) in
            let l : gap n (home y) i ≤ gap n (home y) hole = subst (λ (u : X). gap n (home u) i ≤ gap n (home u) hole) zy (subst (λ (p : ℕ). gap n (home z) i ≤ gap n (home z) p) qh way) in
            let ne : gap n (home y) hole ≢ gap n (home y) at = λ g. apart (sym (same_gap n (home y) hole at (homes y) h.below lat g)) in
            let ia : i ≢ at = λ c. let g : gap n (home y) i ≡ gap n (home y) at = ap (gap n (home y)) c in absurd (omega (arith, l, ne, goes, g)) in
            ⊎_elim (λ (o : cell row i ≢ None). inl (λ v. o (sym (other i ih ia) ∙ v)))
            (λ (b : (i ≡ hole) × (s ≤ gap n a at)). absurd (ih b.0))
            (h.ways at y lat there i li (omega arith)))
            (λ (qh : q ≢ hole).
            by_equal q at (λ (qa : q ≡ at). let v : cell (moved row hole at y) at ≡ Some z = ap (cell (moved row hole at y)) (sym qa) ∙ is in absurd (cc (v, in_at)))
            (λ (qa : q ≢ at).
            let was : cell row q ≡ Some z = sym (other q qh qa) ∙ is in
            by_equal i at (λ (ia : i ≡ at).
            by_order (gap n a q) (gap n a at) (λ (l : gap n a q < gap n a at).
            let w : gap n (home z) at ≤ gap n (home z) q = subst (λ (p : ℕ). gap n (home z) p ≤ gap n (home z) q) ia way in
            ⊎_elim (λ (o : cell row e ≢ None). absurd (o e_row))
            (λ (b : (e ≡ hole) × (s ≤ gap n a q)). absurd (e_not_hole b.0))
            (h.ways q z lq was e le (wraps n a (home z) at q e la (homes z) lat lq le w l (omega arith))))
            (λ (l : gap n a at ≤ gap n a q).
            let ne : gap n a q ≢ gap n a at = λ g. qa (same_gap n a q at la lq lat g) in
            inr (ia, omega (arith, l, ne))))
            (λ (ia : i ≢ at).
            ⊎_elim (λ (o : cell row i ≢ None). inl (λ v. o (sym (other i ih ia) ∙ v)))
            (λ (b : (i ≡ hole) × (s ≤ gap n a q)). absurd (ih b.0))
            (h.ways q z lq was i li way)))));
      }

  pub holed_end : (old row : List (Option X)) (hole at s : ℕ) → Holed home n a hole s old row → at < n → gap n a at ≡ s → cell row at ≡ None → IsReached home n row
  holed_end old row hole at s h lat ga none q y lq is i li way =
      ⊎_elim (λ (o : cell row i ≢ None). o)
      (λ (b : (i ≡ hole) × (s ≤ gap n a q)).
      let w : gap n (home y) hole ≤ gap n (home y) q = subst (λ (p : ℕ). gap n (home y) p ≤ gap n (home y) q) b.0 way in
      let l : gap n (home y) at ≤ gap n (home y) q = between n a (home y) hole at q la (homes y) h.below lat lq w (let c = h.behind in omega arith) (omega (arith, b.1)) in
      ⊎_elim (λ (o : cell row at ≢ None). absurd (o none))
      (λ (c : (at ≡ hole) × (s ≤ gap n a q)). let g : gap n a at ≡ gap n a hole = ap (gap n a) c.0 in let d = h.behind in absurd (omega arith))
      (h.ways q y lq is at lat l))
      (h.ways q y lq is i li way)
