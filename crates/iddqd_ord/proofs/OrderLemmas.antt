-- What a search finds among items in order, and what an edit at that place does.
use Rattle.std.proofs.Common.{◌≡◌, ◌≢◌, ℕ, ◌+◌, ◌-◌, ◌<◌, ◌≤◌, Bool, true, false, List, length, get_or, refl, ap, ◌∙◌, subst, arith, inl, inr}
use Rattle.std.specs.List.{insert, remove}
use Rattle.std.specs.Cmp.{IsTotalOrder}
use Rattle.std.specs.Ordering.{ordering_reverse}
use Rattle.std.specs.declared.cmp.Ordering.{Ordering}
use Rattle.std.specs.declared.cmp.Ordering.TheVariants.{Less, Equal, Greater}
use Rattle.std.specs.Prelude.{slice_set}
use Rattle.std.proofs.lemmas.List.{length-set, get_or-set_same, get_or-set_other}
use Rattle.std.proofs.lemmas.Bool.{cases_lt, cases_eq}
use Rattle.std.proofs.lemmas.List.Edits.{length-insert, get_or-insert_below, get_or-insert_at, get_or-insert_above, length-remove, get_or-remove_below, get_or-remove_above}
use Rattle.iddqd_order.specs.Search.{IsSearchable, IsSplit, IsLastEqual, side_of}
use Rattle.iddqd_ord.specs.Ordered.{IsAscending, IsRising, IsRising-key, IsSeeking}

module _ {T K : Type 0} {cmp : K → K → Ordering} (o : IsTotalOrder cmp) (key : T → K) where
  -- an item in the gap for its key keeps the order
  pub ascending-insert : (xs : List T) (i : ℕ) (x : T) → IsSplit (λ y. cmp (key y) (key x)) xs i 0 → IsAscending cmp key xs → IsAscending cmp key (insert xs i x)
  ascending-insert xs n x gap up i j d lt in_range =
      let new = insert xs n x in
      let le : n ≤ length xs = omega (arith, gap.in_range) in
      let len = length-insert xs n x le in
      let below : (i : ℕ) → i < n → get_or new i d ≡ get_or xs i d = λ i b. get_or-insert_below xs n x d i b le in
      let here : (i : ℕ) → i ≡ n → get_or new i d ≡ x = λ i h. rw h (get_or-insert_at xs n x d le) in
      let above : (i : ℕ) → n < i → get_or new i d ≡ get_or xs (i - 1) d = λ i a. subst (λ q. get_or new q d ≡ get_or xs (i - 1) d) {x = i - 1 + 1} (omega arith) (get_or-insert_above xs n x d (i - 1) (omega arith) le) in
      let first : (k : ℕ) → n ≤ k → k < length xs → cmp (key x) (key (get_or xs k d)) ≡ Less = λ k from l. o.antisymm _ _ ∙ ap ordering_reverse (gap.above k d (omega (arith, from)) l) in
      grind (arith, below i, here i, above i, below j, here j, above j, up i j d, up i (j - 1) d, up (i - 1) (j - 1) d, gap.below i d, first (j - 1))

  -- without one item the order stays
  pub ascending-remove : (xs : List T) (i : ℕ) → i < length xs → IsAscending cmp key xs → IsAscending cmp key (remove xs i)
  ascending-remove xs n there up i j d lt in_range =
      let new = remove xs n in
      let len = length-remove xs n there in
      let below : (i : ℕ) → i < n → get_or new i d ≡ get_or xs i d = λ i b. get_or-remove_below xs n d i b there in
      let above : (i : ℕ) → n ≤ i → get_or new i d ≡ get_or xs (i + 1) d = λ i a. get_or-remove_above xs n d i a there in
      grind (arith, below i, above i, below j, above j, up i j d, up i (j + 1) d, up (i + 1) (j + 1) d)

  -- an item with an equal key in the place of another keeps the order
  pub ascending-set : (xs : List T) (i : ℕ) (x : T) → i < length xs → ((d : T) → cmp (key (get_or xs i d)) (key x) ≡ Equal) → IsAscending cmp key xs → IsAscending cmp key (slice_set xs i x)
  ascending-set xs n x there alike up i j d lt in_range =
      let new = slice_set xs n x in
      let len = length-set xs n x in
      let rising = IsRising-key o key (key x) in
      let here : get_or new n d ≡ x = get_or-set_same xs n x d there in
      let other : (k : ℕ) → k ≢ n → get_or new k d ≡ get_or xs k d = λ k e. get_or-set_other xs n k x d e in
      elim (cases_eq i n) [
        | inl at ↦
            let second = other j (λ e. absurd (omega (arith, e, at))) in
            let higher : cmp (key (get_or xs j d)) (key x) ≡ Greater = rising.after _ _ (up n j d (omega (arith, at)) (omega (arith, len))) (alike d) in
            let first : get_or new i d ≡ x = ap (λ (q : ℕ). get_or new q d) at ∙ here in
            ap (λ (y : T). cmp (key y) (key (get_or new j d))) first ∙ ap (λ (y : T). cmp (key x) (key y)) second ∙ o.antisymm _ _ ∙ ap ordering_reverse higher
        | inr not_first ↦ elim (cases_eq j n) [
          | inl at ↦
              let first = other i not_first in
              let second : get_or new j d ≡ x = ap (λ (q : ℕ). get_or new q d) at ∙ here in
              ap (λ (y : T). cmp (key y) (key (get_or new j d))) first ∙ ap (λ (y : T). cmp (key (get_or xs i d)) (key y)) second
              ∙ rising.before _ _ (up i n d (omega (arith, at)) there) (alike d)
          | inr not_second ↦
              ap (λ (y : T). cmp (key y) (key (get_or new j d))) (other i not_first)
              ∙ ap (λ (y : T). cmp (key (get_or xs i d)) (key y)) (other j not_second)
              ∙ up i j d lt (omega (arith, len))
        ]
      ]

  module _ (xs : List T) (up : IsAscending cmp key xs) (compare : T → Ordering) (rising : IsRising cmp key compare) where
    -- of an item that is the one that is sought, lower ones stand before it and higher ones behind it
    pub IsSplit-equal : (i : ℕ) → i < length xs → ((d : T) → compare (get_or xs i d) ≡ Equal) → IsSplit compare xs i 1
    IsSplit-equal i within alike = record {
      in_range = omega (arith, within);
      below = λ j d lt. rising.before _ _ (up j i d lt within) (alike d);
      equal = λ j d le lt. let same : i ≡ j = omega (arith, le, lt) in subst (λ (q : ℕ). compare (get_or xs q d) ≡ Equal) same (alike d);
      above = λ j d le lt. rising.after _ _ (up i j d (omega (arith, le)) lt) (alike d);
    }

    -- no two items are the one that is sought
    pub IsSplit-last : (i : ℕ) → IsLastEqual compare xs i → IsSplit compare xs i 1
    IsSplit-last i l = IsSplit-equal i (omega (arith, l.split.in_range, l.last)) (λ d. l.split.equal i d (omega (arith, l.last)) (omega (arith, l.last)))

-- a side of a place rises with the keys
pub IsSeeking-side : {T K : Type 0} (cmp : K → K → Ordering) (key : T → K) (compare : T → Ordering) (past : Bool) → IsSeeking cmp key compare → IsSeeking cmp key (λ x. side_of past (compare x))
IsSeeking-side {T} cmp key compare past s = record {
  less = λ x y lt e. lower x y lt (compare x) (compare y) refl refl past e;
  greater = λ x y lt e. higher x y lt (compare x) (compare y) refl refl past e;
  same = λ x y e. ap (side_of past) (s.same x y e);
}
  where
    lower : (x y : T) → cmp (key x) (key y) ≡ Less → (a b : Ordering) → compare x ≡ a → compare y ≡ b → (p : Bool) → side_of p b ≡ Less → side_of p a ≡ Less
    lower x y lt Less b at_x at_y p e = refl
    lower x y lt Equal b at_x at_y true e = refl
    lower x y lt Equal Less at_x at_y false e = absurd (cc (s.less x y lt at_y))
    lower x y lt Equal Equal at_x at_y false e = absurd (cc e)
    lower x y lt Equal Greater at_x at_y false e = absurd (cc e)
    lower x y lt Greater Less at_x at_y p e = absurd (cc (s.less x y lt at_y))
    lower x y lt Greater Equal at_x at_y true e = absurd (cc (s.greater x y lt at_x))
    lower x y lt Greater Equal at_x at_y false e = absurd (cc e)
    lower x y lt Greater Greater at_x at_y p e = absurd (cc e)

    higher : (x y : T) → cmp (key x) (key y) ≡ Less → (a b : Ordering) → compare x ≡ a → compare y ≡ b → (p : Bool) → side_of p a ≡ Greater → side_of p b ≡ Greater
    higher x y lt a Greater at_x at_y p e = refl
    higher x y lt Less b at_x at_y p e = absurd (cc e)
    higher x y lt Equal Equal at_x at_y p e = e
    higher x y lt Equal Less at_x at_y true e = absurd (cc e)
    higher x y lt Equal Less at_x at_y false e = absurd (cc (s.less x y lt at_y))
    higher x y lt Greater Less at_x at_y p e = absurd (cc (s.less x y lt at_y))
    higher x y lt Greater Equal at_x at_y p e = absurd (cc (s.greater x y lt at_x))

-- the comparisons rise along the items
pub searchable : {T K : Type 0} (cmp : K → K → Ordering) (key : T → K) (xs : List T) → IsAscending cmp key xs → (compare : T → Ordering) → IsSeeking cmp key compare → IsSearchable compare xs
searchable cmp key xs up compare s = record {
  less = λ i j d le lt e. elim (cases_lt i j) [
    | inl below ↦ s.less _ _ (up i j d below lt) e
    | inr other ↦ let same : j ≡ i = omega (arith, le, other) in subst (λ (q : ℕ). compare (get_or xs q d) ≡ Less) same e
  ];
  greater = λ i j d le lt e. elim (cases_lt i j) [
    | inl below ↦ s.greater _ _ (up i j d below lt) e
    | inr other ↦ let same : i ≡ j = omega (arith, le, other) in subst (λ (q : ℕ). compare (get_or xs q d) ≡ Greater) same e
  ];
}

-- a comparison of keys is one of items
pub IsSeeking-at : {T K : Type 0} (cmp : K → K → Ordering) (key : T → K) (compare : K → Ordering) → IsSeeking cmp (λ k. k) compare → IsSeeking cmp key (λ x. compare (key x))
IsSeeking-at cmp key compare s = record {
  less = λ x y lt e. s.less (key x) (key y) lt e;
  greater = λ x y lt e. s.greater (key x) (key y) lt e;
  same = λ x y e. s.same (key x) (key y) e;
}
