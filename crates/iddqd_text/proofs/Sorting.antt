-- A stable sort by first keys puts items in the order that the program prints.
use Rattle.std.proofs.Common.{◌≡◌, ℕ, zero, suc, ◌<◌, ◌≤◌, Bool, true, false, cond, List, [], ◌∷◌, length, get_or, filter, nat_cmp, nat_lt, is_lt, refl, sym}
use Rattle.std.proofs.Common.{ap, subst, ◌∙◌, arith, inl, inr, suc-le-suc, zero-le}
use Rattle.std.proofs.lemmas.Bool.{cond-true, cond-false, cases_Bool}
use Rattle.std.proofs.lemmas.Bool.Decides.{nat_tests}
use Rattle.std.specs.List.Sorted.{ties, IsNonDecreasingBy, IsStableByKey}
use Rattle.std.specs.Prelude.{IsPermutation, nat_eq}
use Rattle.std.specs.List.{IsDistinct}
use Rattle.iddqd_store.proofs.BagLemmas.Sound.{named-IsPermutation}
use Rattle.iddqd_text.specs.Sorted.{first_key, put_in, by_first_key}

module _ {T : Type 0} (numbers : T → List ℕ) where
  -- the first key of an item
  abbrev key : T → ℕ
  key = first_key numbers

  -- the two have the same first key
  abbrev pub same_key : T → T → Bool
  same_key = ties (λ x y. is_lt (nat_cmp (key x) (key y)))

  ties_at : (m n : ℕ) → (ties (λ x y. is_lt (nat_cmp x y)) m n ≡ true → m ≡ n) × (m ≡ n → ties (λ x y. is_lt (nat_cmp x y)) m n ≡ true)
  ties_at m n = (λ h. grind (arith, nat_tests), λ h. grind (arith, nat_tests))

  same_key-true : (x y : T) → same_key x y ≡ true → (key x) ≡ (key y)
  same_key-true x y = (ties_at (key x) (key y)).0

  same_key_from : (x y : T) → (key x) ≡ (key y) → same_key x y ≡ true
  same_key_from x y = (ties_at (key x) (key y)).1

  less : (m n : ℕ) → nat_lt m n ≡ true → m < n
  less m n h = grind (arith, nat_tests)

  not_less : (m n : ℕ) → nat_lt m n ≡ false → n ≤ m
  not_less m n h = grind (arith, nat_tests)

  filter-kept : (p : T → Bool) (y : T) (ys : List T) → p y ≡ true → filter p (y ∷ ys) ≡ y ∷ filter p ys
  filter-kept p y ys h = cond-true _ _ _ h

  filter-dropped : (p : T → Bool) (y : T) (ys : List T) → p y ≡ false → filter p (y ∷ ys) ≡ filter p ys
  filter-dropped p y ys h = cond-false _ _ _ h

  -- where the item is put, by the first of the others
  put_past : (x y : T) (ys : List T) → nat_lt (key y) (key x) ≡ true → put_in numbers x (y ∷ ys) ≡ y ∷ put_in numbers x ys
  put_past x y ys h = cond-true _ _ _ h

  put_first : (x y : T) (ys : List T) → nat_lt (key y) (key x) ≡ false → put_in numbers x (y ∷ ys) ≡ x ∷ y ∷ ys
  put_first x y ys h = cond-false _ _ _ h

  -- an item is put before those with its key
  filter-put_in : (x c : T) (ds : List T) → filter (same_key x) (put_in numbers c ds) ≡ filter (same_key x) (c ∷ ds)
  filter-put_in x c [] = refl
  filter-put_in x c (d ∷ ds) =
      let p = same_key x in
      elim (cases_Bool (nat_lt (key d) (key c))) [
        | inr stays ↦ ap (filter p) (put_first c d ds stays)
        | inl past ↦
            let lt : (key d) < (key c) = less (key d) (key c) past in
            ap (filter p) (put_past c d ds past)
            ∙ elim (cases_Bool (p d)) [
              | inr without ↦
                  filter-dropped p d (put_in numbers c ds) without ∙ filter-put_in x c ds
                  ∙ ap (λ l. cond (p c) (c ∷ l) l) (sym (filter-dropped p d ds without))
              | inl with ↦
                  elim (cases_Bool (p c)) [
                    | inl both ↦ absurd (omega (arith, same_key-true x c both, same_key-true x d with))
                    | inr only ↦
                        filter-kept p d (put_in numbers c ds) with ∙ ap (λ l. d ∷ l) (filter-put_in x c ds ∙ filter-dropped p c ds only)
                        ∙ sym (filter-dropped p c (d ∷ ds) only ∙ filter-kept p d ds with)
                  ]
            ]
      ]

  -- items of one key stay in their order
  filter-by_first_key : (x : T) (cs : List T) → filter (same_key x) (by_first_key numbers cs) ≡ filter (same_key x) cs
  filter-by_first_key x [] = refl
  filter-by_first_key x (c ∷ cs) = filter-put_in x c (by_first_key numbers cs) ∙ ap (λ l. cond (same_key x c) (c ∷ l) l) (filter-by_first_key x cs)

  -- no first key is below n
  abbrev pub AreAtLeast : ℕ → List T → Type 0
  AreAtLeast n [] = Unit {0}
  AreAtLeast n (y ∷ ys) = (n ≤ (key y)) × AreAtLeast n ys

  -- the first keys do not fall
  abbrev pub Rises : List T → Type 0
  Rises [] = Unit {0}
  Rises (y ∷ ys) = AreAtLeast (key y) ys × Rises ys

  AreAtLeast-le : (n m : ℕ) (ys : List T) → n ≤ m → AreAtLeast m ys → AreAtLeast n ys
  AreAtLeast-le n m [] le h = tt
  AreAtLeast-le n m (y ∷ ys) le h = let first = h.0 in (omega arith, AreAtLeast-le n m ys le h.1)

  AreAtLeast-at : (n : ℕ) (d : T) (ys : List T) → ((j : ℕ) → j < length ys → n ≤ key (get_or ys j d)) → AreAtLeast n ys
  AreAtLeast-at n d [] h = tt
  AreAtLeast-at n d (y ∷ ys) h = (h zero (suc-le-suc zero-le), AreAtLeast-at n d ys (λ j lt. h (suc j) (suc-le-suc lt)))

  Rises-from_sort : (ys : List T) → IsNonDecreasingBy (λ item. key item) ys → Rises ys
  Rises-from_sort [] h = tt
  Rises-from_sort (y ∷ ys) h = (
    AreAtLeast-at (key y) y ys (λ j lt. h zero (suc j) y zero-le (suc-le-suc lt)),
    Rises-from_sort ys (λ i j d le lt. h (suc i) (suc j) d (suc-le-suc le) (suc-le-suc lt)),
  )

  AreAtLeast-put_in : (n : ℕ) (x : T) (ys : List T) → n ≤ (key x) → AreAtLeast n ys → AreAtLeast n (put_in numbers x ys)
  AreAtLeast-put_in n x [] le h = (le, tt)
  AreAtLeast-put_in n x (y ∷ ys) le h =
      elim (cases_Bool (nat_lt (key y) (key x))) [
        | inl past ↦ subst (AreAtLeast n) (sym (put_past x y ys past)) (h.0, AreAtLeast-put_in n x ys le h.1)
        | inr stays ↦ subst (AreAtLeast n) (sym (put_first x y ys stays)) (le, h)
      ]

  Rises-put_in : (x : T) (ys : List T) → Rises ys → Rises (put_in numbers x ys)
  Rises-put_in x [] h = (tt, tt)
  Rises-put_in x (y ∷ ys) h =
      elim (cases_Bool (nat_lt (key y) (key x))) [
        | inl past ↦
            let lt = less (key y) (key x) past in
            let le : (key y) ≤ (key x) = omega arith in
            subst Rises (sym (put_past x y ys past)) (AreAtLeast-put_in (key y) x ys le h.0, Rises-put_in x ys h.1)
        | inr stays ↦
            let le = not_less (key y) (key x) stays in
            subst Rises (sym (put_first x y ys stays)) ((le, AreAtLeast-le (key x) (key y) ys le h.0), h)
      ]

  Rises-by_first_key : (xs : List T) → Rises (by_first_key numbers xs)
  Rises-by_first_key [] = tt
  Rises-by_first_key (x ∷ xs) = Rises-put_in x (by_first_key numbers xs) (Rises-by_first_key xs)

  -- the key of x occurs among them
  AreAtLeast-found : (n : ℕ) (x : T) (ys : List T) (w : T) (ws : List T) → AreAtLeast n ys → filter (same_key x) ys ≡ w ∷ ws → n ≤ (key x)
  AreAtLeast-found n x [] w ws h e = cc
  AreAtLeast-found n x (y ∷ ys) w ws h e =
      elim (cases_Bool (same_key x y)) [
        | inl with ↦ omega (arith, h.0, same_key-true x y with)
        | inr without ↦ AreAtLeast-found n x ys w ws h.1 (sym (filter-dropped (same_key x) y ys without) ∙ e)
      ]

  -- rising lists that have the same items of each key, in the same order, are equal
  same_from_keys : (ys zs : List T) → Rises ys → Rises zs → ((x : T) → filter (same_key x) ys ≡ filter (same_key x) zs) → ys ≡ zs
  same_from_keys [] [] left right same = refl
  same_from_keys [] (z ∷ zs) left right same =
      let clash = same z ∙ filter-kept (same_key z) z zs (same_key_from z z refl) in cc
  same_from_keys (y ∷ ys) [] left right same =
      let clash = sym (same y) ∙ filter-kept (same_key y) y ys (same_key_from y y refl) in cc
  same_from_keys (y ∷ ys) (z ∷ zs) left right same =
      let at_y = filter-kept (same_key y) y ys (same_key_from y y refl) in
      let at_z = filter-kept (same_key z) z zs (same_key_from z z refl) in
      let up = AreAtLeast-found (key z) y (z ∷ zs) y _ (omega arith, right.0) (sym (same y) ∙ at_y) in
      let down = AreAtLeast-found (key y) z (y ∷ ys) z _ (omega arith, left.0) (same z ∙ at_z) in
      let heads = sym at_y ∙ same y ∙ filter-kept (same_key y) z zs (same_key_from y z (omega arith)) in
      let head : y ≡ z = cc in
      let tails : (x : T) → filter (same_key x) ys ≡ filter (same_key x) zs =
      λ x. elim (cases_Bool (same_key x y)) [
        | inl with ↦
            let both = sym (filter-kept (same_key x) y ys with) ∙ same x ∙ filter-kept (same_key x) z zs (ap (same_key x) (sym head) ∙ with) in cc
        | inr without ↦
            sym (filter-dropped (same_key x) y ys without) ∙ same x ∙ filter-dropped (same_key x) z zs (ap (same_key x) (sym head) ∙ without)
      ] in
      ap (λ w. w ∷ ys) head ∙ ap (λ l. z ∷ l) (same_from_keys ys zs left.1 right.1 tails)

  -- what a stable sort by first keys keeps
  pub by_first_key-from_sort : (xs ys : List T) → IsNonDecreasingBy (λ item. key item) ys → IsStableByKey (λ item. key item) nat_cmp xs ys → ys ≡ by_first_key numbers xs
  by_first_key-from_sort xs ys sorted stable =
      same_from_keys ys (by_first_key numbers xs) (Rises-from_sort ys sorted) (Rises-by_first_key xs) (λ x. stable x ∙ sym (filter-by_first_key x xs))

  -- items with distinct first keys are sorted to the same list, in whatever order they come
  pub by_first_key-IsPermutation : (xs ys : List T) → IsDistinct (λ x y. nat_eq (key x) (key y)) xs → IsPermutation xs ys → by_first_key numbers xs ≡ by_first_key numbers ys
  by_first_key-IsPermutation xs ys apart same =
      same_from_keys (by_first_key numbers xs) (by_first_key numbers ys) (Rises-by_first_key xs) (Rises-by_first_key ys)
      (λ x. filter-by_first_key x xs ∙ named-IsPermutation (λ y z. nat_eq (key y) (key z)) (same_key x) (one x) xs ys apart same ∙ sym (filter-by_first_key x ys))
    where
      equal : (m n k : ℕ) → k ≡ m → k ≡ n → nat_eq m n ≡ true
      equal m n k a b = grind (arith, nat_tests)

      one : (x y z : T) → same_key x y ≡ true → same_key x z ≡ true → nat_eq (key y) (key z) ≡ true
      one x y z first then = equal (key y) (key z) (key x) (same_key-true x y first) (same_key-true x z then)
