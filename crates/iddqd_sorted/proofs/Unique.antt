-- An ascending list is determined by the items that it has.
use Rattle.std.proofs.Common.{◌≡◌, ℕ, zero, suc, ◌+◌, ◌<◌, ◌≤◌, All, Bool, true, false, cond, List, [], ◌∷◌, length, get_or, refl, sym, ap, ◌∙◌, subst, arith, ◌⊎◌, inl, inr}
use Rattle.std.specs.Prelude.{Contains, IsPermutation, filter}
use Rattle.std.specs.List.{insert}
use Rattle.std.specs.Cmp.{IsTotalOrder}
use Rattle.std.specs.Ordering.{ordering_reverse, is_lt, is_eq}
use Rattle.std.specs.declared.cmp.Ordering.{Ordering}
use Rattle.std.specs.declared.cmp.Ordering.TheVariants.{Less, Equal, Greater}
use Rattle.std.proofs.lemmas.Bool.{false≢true}
use Rattle.std.proofs.lemmas.Cmp.{tied_itself}
use Rattle.std.proofs.lemmas.List.Elements.{All-filter, Contains-get_or}
use Rattle.std.proofs.lemmas.List.Sorted.{IsPermutation-sym, IsPermutation-trans, IsPermutation-insert, Contains-permutation, length_permutation}
use Rattle.iddqd_order.specs.Search.{IsSplit}
use Rattle.iddqd_store.proofs.BagLemmas.Exchanges.{IsPermutation-filter}
use Rattle.iddqd_sorted.specs.Items.{with_item}
use Rattle.iddqd_sorted.specs.Ordered.{IsAscending}
use Rattle.iddqd_sorted.proofs.Ordering.{IsRising-item, ascending-insert}
use Rattle.iddqd_order.proofs.FilterLemmas.{filter-all, inserted-split}

module _ {T : Type 0} {by : T → T → Ordering} (o : IsTotalOrder by) where
  pub ascending-tail : (x : T) (xs : List T) → IsAscending by (x ∷ xs) → IsAscending by xs
  ascending-tail x xs up i j d lt in_range = up (suc i) (suc j) d (omega (arith, lt)) (omega (arith, in_range))

  -- the first item is lower than the others
  pub behind_first : (x : T) (xs : List T) → IsAscending by (x ∷ xs) → All (λ y. by x y ≡ Less) xs
  behind_first x xs up j d lt = up 0 (suc j) d (omega arith) (omega (arith, lt))

  -- an item in front of higher ones
  pub ascending-cons : (x : T) (xs : List T) → All (λ y. by x y ≡ Less) xs → IsAscending by xs → IsAscending by (x ∷ xs)
  ascending-cons x xs low up i zero d lt in_range = absurd (omega (arith, lt))
  ascending-cons x xs low up zero (suc j) d lt in_range = low j d (omega (arith, in_range))
  ascending-cons x xs low up (suc i) (suc j) d lt in_range = up i j d (omega (arith, lt)) (omega (arith, in_range))

  pub ascending-filter : (p : T → Bool) (xs : List T) → IsAscending by xs → IsAscending by (filter p xs)
  ascending-filter p [] up = up
  ascending-filter p (x ∷ xs) up = by_test (p x) (ascending-filter p xs (ascending-tail x xs up))
    where
      by_test : (b : Bool) → IsAscending by (filter p xs) → IsAscending by (cond b (x ∷ filter p xs) (filter p xs))
      by_test true more = ascending-cons x (filter p xs) (All-filter p (λ y. by x y ≡ Less) xs (behind_first x xs up)) more
      by_test false more = more

  -- the first item is lower than each other
  first_or_lower : (x y : T) (xs : List T) → IsAscending by (x ∷ xs) → Contains (x ∷ xs) y → (x ≡ y) ⊎ (by x y ≡ Less)
  first_or_lower x y xs up (zero, lt, is) = inl is
  first_or_lower x y xs up (suc j, lt, is) = inr (ap (by x) (sym is) ∙ behind_first x xs up j y (omega (arith, lt)))

  first_same : (x y : T) (xs ys : List T) → IsAscending by (x ∷ xs) → IsAscending by (y ∷ ys) → IsPermutation (x ∷ xs) (y ∷ ys) → x ≡ y
  first_same x y xs ys up_x up_y same =
      let second = Contains-permutation (y ∷ ys) (x ∷ xs) y (IsPermutation-sym _ _ same) (Contains-get_or (y ∷ ys) 0 y (omega arith)) in
      let first = Contains-permutation (x ∷ xs) (y ∷ ys) x same (Contains-get_or (x ∷ xs) 0 x (omega arith)) in
      elim (first_or_lower x y xs up_x second) [
        | inl is ↦ is
        | inr low ↦ elim (first_or_lower y x ys up_y first) [
          | inl is ↦ sym is
          | inr back ↦ absurd (false≢true (ap is_lt (sym (o.antisymm x y ∙ ap ordering_reverse back) ∙ low)))
        ]
      ]

  -- without the first item there are those that are higher than it
  others_higher : (x : T) (xs : List T) → IsAscending by (x ∷ xs) → filter (λ y. is_lt (by x y)) (x ∷ xs) ≡ xs
  others_higher x xs up = rw (tied_itself o x) (filter-all (λ y. is_lt (by x y)) xs (λ j d lt. ap is_lt (behind_first x xs up j d lt)))

  -- ascending lists with the same items are equal
  pub ascending-unique : (xs ys : List T) → IsAscending by xs → IsAscending by ys → IsPermutation xs ys → xs ≡ ys
  ascending-unique [] [] up_x up_y same = refl
  ascending-unique [] (y ∷ ys) up_x up_y same = absurd (omega (arith, length_permutation _ _ same))
  ascending-unique (x ∷ xs) [] up_x up_y same = absurd (omega (arith, length_permutation _ _ same))
  ascending-unique (x ∷ xs) (y ∷ ys) up_x up_y same =
      let first : x ≡ y = first_same x y xs ys up_x up_y same in
      let high : T → Bool = λ z. is_lt (by x z) in
      let left : filter high (x ∷ xs) ≡ xs = others_higher x xs up_x in
      let right : filter high (y ∷ ys) ≡ ys = subst (λ (q : T). filter (λ z. is_lt (by q z)) (y ∷ ys) ≡ ys) (sym first) (others_higher y ys up_y) in
      let both : IsPermutation xs ys = subst (λ (q : List T). IsPermutation q ys) left (subst (λ (q : List T). IsPermutation (filter high (x ∷ xs)) q) right (IsPermutation-filter high _ _ same)) in
      let rest = ascending-unique xs ys (ascending-tail x xs up_x) (ascending-tail y ys up_y) both in
      λ t. first t ∷ rest t

  -- the gap for an item that is level with none
  gap_for : (x : T) (xs : List T) → All (λ y. is_eq (by y x) ≡ false) xs → IsAscending by xs → (i : ℕ) × IsSplit (λ y. by y x) xs i 0
  gap_for x [] apart up = (
    0,
    record {
      in_range = omega arith;
      below = λ j d lt. absurd (omega (arith, lt));
      equal = λ j d le lt. absurd (omega (arith, le, lt));
      above = λ j d le lt. absurd (omega (arith, lt));
    },
  )
  gap_for x (y ∷ ys) apart up =
      by_order (by y x) refl (apart 0 y (omega arith)) (gap_for x ys (λ j d lt. apart (suc j) d (omega (arith, lt))) (ascending-tail y ys up))
    where
      lower : (i : ℕ) → ((j : ℕ) (d : T) → j < i → by (get_or ys j d) x ≡ Less) → by y x ≡ Less → (j : ℕ) (d : T) → j < suc i → by (get_or (y ∷ ys) j d) x ≡ Less
      lower i more is zero d lt = is
      lower i more is (suc j) d lt = more j d (omega (arith, lt))

      higher : (i : ℕ) → ((j : ℕ) (d : T) → i + 0 ≤ j → j < length ys → by (get_or ys j d) x ≡ Greater) → (j : ℕ) (d : T) → suc i + 0 ≤ j → j < length (y ∷ ys) → by (get_or (y ∷ ys) j d) x ≡ Greater
      higher i more zero d le lt = absurd (omega (arith, le))
      higher i more (suc j) d le lt = more j d (omega (arith, le)) (omega (arith, lt))

      all_higher : by y x ≡ Greater → (j : ℕ) (d : T) → 0 + 0 ≤ j → j < length (y ∷ ys) → by (get_or (y ∷ ys) j d) x ≡ Greater
      all_higher is zero d le lt = is
      all_higher is (suc j) d le lt = (IsRising-item o x).greater _ _ (behind_first y ys up j d (omega (arith, lt))) is

      by_order : (c : Ordering) → by y x ≡ c → is_eq (by y x) ≡ false → (i : ℕ) × IsSplit (λ y. by y x) ys i 0 → (i : ℕ) × IsSplit (λ y. by y x) (y ∷ ys) i 0
      by_order Equal is other more = absurd (false≢true (sym other ∙ ap is_eq is))
      by_order Less is other (i, gap) = (
        suc i,
        record {
          in_range = omega (arith, gap.in_range);
          below = lower i gap.below is;
          equal = λ j d le lt. absurd (omega (arith, le, lt));
          above = higher i gap.above;
        },
      )
      by_order Greater is other more = (
        0,
        record {
          in_range = omega arith;
          below = λ j d lt. absurd (omega (arith, lt));
          equal = λ j d le lt. absurd (omega (arith, le, lt));
          above = all_higher is;
        },
      )

  module _ (x : T) (xs : List T) (apart : All (λ y. is_eq (by y x) ≡ false) xs) (up : IsAscending by xs) where
    is_insert : insert xs (gap_for x xs apart up).0 x ≡ with_item by xs x
    is_insert = inserted-split (λ y. by y x) xs (gap_for x xs apart up).0 (gap_for x xs apart up).1 x

    -- an item that is level with none keeps the order
    pub ascending-with_item : IsAscending by (with_item by xs x)
    ascending-with_item = subst (IsAscending by) is_insert (ascending-insert o xs (gap_for x xs apart up).0 x (gap_for x xs apart up).1 up)

    pub IsPermutation-with_item : IsPermutation (x ∷ xs) (with_item by xs x)
    IsPermutation-with_item = subst (IsPermutation (x ∷ xs)) is_insert (IsPermutation-insert xs (gap_for x xs apart up).0 x)

    -- an ascending list of these items is this one
    pub is-with_item : (new : List T) → IsAscending by new → IsPermutation new (x ∷ xs) → new ≡ with_item by xs x
    is-with_item new up_new same = ascending-unique new (with_item by xs x) up_new ascending-with_item (IsPermutation-trans _ _ _ same IsPermutation-with_item)
