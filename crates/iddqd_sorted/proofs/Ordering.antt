-- Lists in an order: what a search in them finds, and what an edit at that place does.
use Rattle.std.proofs.Common.{◌≡◌, ◌≢◌, ℕ, ◌+◌, ◌-◌, ◌<◌, ◌≤◌, List, [], ◌∷◌, length, get_or, sym, ap, ◌∙◌, subst, arith, inl, inr}
use Rattle.std.specs.Prelude.{slice_set}
use Rattle.std.specs.List.{insert, remove}
use Rattle.std.specs.Cmp.{IsTotalOrder, alike_right}
use Rattle.std.specs.Ordering.{ordering_reverse}
use Rattle.std.specs.declared.cmp.Ordering.{Ordering}
use Rattle.std.specs.declared.cmp.Ordering.TheVariants.{Less, Equal, Greater}
use Rattle.std.proofs.lemmas.Bool.{cases_lt, cases_eq}
use Rattle.std.proofs.lemmas.List.{length-set, get_or-set_same, get_or-set_other}
use Rattle.std.proofs.lemmas.List.Edits.{length-insert, get_or-insert_below, get_or-insert_at, get_or-insert_above, length-remove, get_or-remove_below, get_or-remove_above}
use Rattle.iddqd_order.specs.Search.{IsSearchable, IsLastEqual, IsSplit}
use Rattle.iddqd_sorted.specs.Ordered.{IsAscending, IsRising}

module _ {T : Type 0} {by : T → T → Ordering} (o : IsTotalOrder by) where
  -- an item in the gap for it keeps the order
  pub ascending-insert : (xs : List T) (i : ℕ) (x : T) → IsSplit (λ y. by y x) xs i 0 → IsAscending by xs → IsAscending by (insert xs i x)
  ascending-insert xs n x gap up i j d lt in_range =
      let new = insert xs n x in
      let le : n ≤ length xs = omega (arith, gap.in_range) in
      let len = length-insert xs n x le in
      let below : (i : ℕ) → i < n → get_or new i d ≡ get_or xs i d = λ i b. get_or-insert_below xs n x d i b le in
      let here : (i : ℕ) → i ≡ n → get_or new i d ≡ x = λ i h. rw h (get_or-insert_at xs n x d le) in
      let above : (i : ℕ) → n < i → get_or new i d ≡ get_or xs (i - 1) d = λ i a. subst (λ q. get_or new q d ≡ get_or xs (i - 1) d) {x = i - 1 + 1} (omega arith) (get_or-insert_above xs n x d (i - 1) (omega arith) le) in
      let first : (k : ℕ) → n ≤ k → k < length xs → by x (get_or xs k d) ≡ Less = λ k le l. o.antisymm _ _ ∙ ap ordering_reverse (gap.above k d (omega (arith, le)) l) in
      grind (arith, below i, here i, above i, below j, here j, above j, up i j d, up i (j - 1) d, up (i - 1) (j - 1) d, gap.below i d, first (j - 1))

  -- without one item the order stays
  pub ascending-remove : (xs : List T) (i : ℕ) → i < length xs → IsAscending by xs → IsAscending by (remove xs i)
  ascending-remove xs n there up i j d lt in_range =
      let new = remove xs n in
      let len = length-remove xs n there in
      let below : (i : ℕ) → i < n → get_or new i d ≡ get_or xs i d = λ i b. get_or-remove_below xs n d i b there in
      let above : (i : ℕ) → n ≤ i → get_or new i d ≡ get_or xs (i + 1) d = λ i a. get_or-remove_above xs n d i a there in
      grind (arith, below i, above i, below j, above j, up i j d, up i (j + 1) d, up (i + 1) (j + 1) d)

  -- an item that is higher than those before a place and lower than those behind it keeps the order there
  pub ascending-set : (xs : List T) (i : ℕ) (x : T) → i < length xs → ((j : ℕ) (d : T) → j < i → by (get_or xs j d) x ≡ Less)
      → ((j : ℕ) (d : T) → i < j → j < length xs → by x (get_or xs j d) ≡ Less) → IsAscending by xs → IsAscending by (slice_set xs i x)
  ascending-set xs n x there before behind up i j d lt in_range =
      let new = slice_set xs n x in
      let len = length-set xs n x in
      let here : get_or new n d ≡ x = get_or-set_same xs n x d there in
      let other : (k : ℕ) → k ≢ n → get_or new k d ≡ get_or xs k d = λ k e. get_or-set_other xs n k x d e in
      elim (cases_eq i n) [
        | inl at ↦
            let second = other j (λ e. absurd (omega (arith, e, at))) in
            let first : get_or new i d ≡ x = ap (λ (q : ℕ). get_or new q d) at ∙ here in
            ap (λ (y : T). by y (get_or new j d)) first ∙ ap (by x) second ∙ behind j d (omega (arith, at)) (omega (arith, len))
        | inr not_first ↦ elim (cases_eq j n) [
          | inl at ↦
              let second : get_or new j d ≡ x = ap (λ (q : ℕ). get_or new q d) at ∙ here in
              ap (λ (y : T). by y (get_or new j d)) (other i not_first) ∙ ap (by (get_or xs i d)) second ∙ before i d (omega (arith, at))
          | inr not_second ↦
              ap (λ (y : T). by y (get_or new j d)) (other i not_first)
              ∙ ap (by (get_or xs i d)) (other j not_second)
              ∙ up i j d lt (omega (arith, len))
        ]
      ]

  -- the comparison with an item rises with the order
  pub IsRising-item : (x : T) → IsRising by (λ y. by y x)
  IsRising-item x = record {
    less = λ y z lt e. o.trans _ _ _ lt e;
    greater = λ y z lt e.
        let back : by x y ≡ Less = o.antisymm _ _ ∙ ap ordering_reverse e in
        o.antisymm _ _ ∙ ap ordering_reverse (o.trans _ _ _ back lt);
  }

  -- what is lower than an item that is level with another is lower than that one
  pub lower_too : (y z x : T) → by y z ≡ Less → by z x ≡ Equal → by y x ≡ Less
  lower_too y z x lt level = sym (alike_right o z x y level) ∙ lt

  pub higher_too : (y z x : T) → by z y ≡ Less → by z x ≡ Equal → by y x ≡ Greater
  higher_too y z x lt level = o.antisymm y x ∙ ap ordering_reverse (sym (o.congr z x y level) ∙ lt)

-- an entry of a list that has some
some_entry : {E : Type 0} (es : List E) (i : ℕ) → i < length es → E
some_entry [] i lt = absurd (omega (arith, lt))
some_entry (e ∷ es) i lt = e

-- A search compares entries, and each entry compares as its item.
module _ {E T : Type 0} (es : List E) (xs : List T) (long : length xs ≡ length es)
    (entry : E → Ordering) (compare : T → Ordering) (alike : (i : ℕ) (d : E) (x : T) → i < length es → entry (get_or es i d) ≡ compare (get_or xs i x)) where
  -- of what is absent, lower items stand before the place and higher ones from it on
  pub IsSplit-gap : (i : ℕ) → IsSplit entry es i 0 → IsSplit compare xs i 0
  IsSplit-gap i gap = record {
    in_range = omega (arith, long, gap.in_range);
    below = λ j x lt.
        let within : j < length es = omega (arith, lt, gap.in_range) in
        let d = some_entry es j within in
        sym (alike j d x within) ∙ gap.below j d lt;
    equal = λ j x le lt. absurd (omega (arith, le, lt));
    above = λ j x le lt.
        let within : j < length es = omega (arith, lt, long) in
        let d = some_entry es j within in
        sym (alike j d x within) ∙ gap.above j d le within;
  }

  module _ {by : T → T → Ordering} (up : IsAscending by xs) where
    -- the comparisons rise along the entries
    pub searchable : IsRising by compare → IsSearchable entry es
    searchable rises = record {
      less = λ i j d le lt e.
          let x = some_entry xs j (omega (arith, long, lt)) in
          elim (cases_lt i j) [
            | inl below ↦ alike i d x (omega (arith, below, lt)) ∙ rises.less _ _ (up i j x below (omega (arith, long, lt))) (sym (alike j d x lt) ∙ e)
            | inr other ↦ let same : j ≡ i = omega (arith, le, other) in subst (λ (q : ℕ). entry (get_or es q d) ≡ Less) same e
          ];
      greater = λ i j d le lt e.
          let x = some_entry xs j (omega (arith, long, lt)) in
          elim (cases_lt i j) [
            | inl below ↦ alike j d x lt ∙ rises.greater _ _ (up i j x below (omega (arith, long, lt))) (sym (alike i d x (omega (arith, below, lt))) ∙ e)
            | inr other ↦ let same : i ≡ j = omega (arith, le, other) in subst (λ (q : ℕ). entry (get_or es q d) ≡ Greater) same e
          ];
    }

    -- of an item that was found, lower ones stand before it and higher ones behind it
    pub IsSplit-found : (i : ℕ) → IsLastEqual entry es i → ((y z : T) → by y z ≡ Less → compare z ≡ Equal → compare y ≡ Less)
        → ((y z : T) → by z y ≡ Less → compare z ≡ Equal → compare y ≡ Greater) → IsSplit compare xs i 1
    IsSplit-found i there lower higher =
        let here_too : i < length es = omega (arith, there.last, there.split.in_range) in
        let within : i < length xs = omega (arith, long, here_too) in
        let d = some_entry es i here_too in
        let level : entry (get_or es i d) ≡ Equal = there.split.equal i d (omega (arith, there.last)) (omega (arith, there.last)) in
        let here : (x : T) → compare (get_or xs i x) ≡ Equal = λ x. sym (alike i d x here_too) ∙ level in
        record {
          in_range = omega (arith, within);
          below = λ j x lt. lower _ _ (up j i x lt within) (here x);
          equal = λ j x le lt. let same : i ≡ j = omega (arith, le, lt) in subst (λ (q : ℕ). compare (get_or xs q x) ≡ Equal) same (here x);
          above = λ j x le lt. higher _ _ (up i j x (omega (arith, le)) lt) (here x);
        }
