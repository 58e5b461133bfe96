-- The test whether two bags are the same is true exactly if their members pair off, and it is an equivalence.
use Rattle.std.specs.Prelude.{◌≡◌, ℕ, zero, suc, ◌+◌, ◌<◌, ◌==◌, ◌⊎◌, Bool, true, cond, ◌&&◌, List, [], ◌∷◌, ◌++◌, IsPermutation, Contains, count_by}
use Rattle.std.specs.Cmp.{IsEquivalence, IsPartialEquivalence, per_alike, equiv, both_ways, partial_equiv_from_equiv}
use Rattle.std.specs.List.{AllZip, list_all}
use Rattle.std.proofs.Common.{refl, sym, ap, subst, ◌∙◌, arith, inl, inr}
use Rattle.std.proofs.lemmas.List.Sums.{sum_by-cons}
use Rattle.std.proofs.lemmas.List.Sorted.{IsPermutation-refl, IsPermutation-sym, IsPermutation-cons, IsPermutation-trans, Contains-permutation, sum_by-IsPermutation}
use Rattle.std.proofs.lemmas.Bool.{and_parts, eqb-true, eq-eqb}
use Rattle.std.proofs.lemmas.List.Elements.{Contains-append_left, Contains-append_right, Contains-append_cases}
use Rattle.iddqd_store.proofs.BagLemmas.Exchanges.{split}
use Rattle.iddqd_store.proofs.BagLemmas.Same.{agrees-refl, same_item-equivalence, taken_out}
use Rattle.iddqd_store.specs.Bag.{Ranks, same_item, AreLawful, IsSameBag, is_same}
use Rattle.iddqd_store.proofs.RankLemmas.Index.{Contains-cons}

module _ {T : Type 0} where
  -- in one list or the other
  abbrev Either : List T → List T → T → Type 0
  Either xs ys x = Contains xs x ⊎ Contains ys x

  pub each_tested : (test : T → Bool) (xs : List T) → list_all test xs ≡ true → (x : T) → Contains xs x → test x ≡ true
  each_tested test [] h x found = absurd (omega (arith, found.1))
  each_tested test (y ∷ xs) h x (zero, lt, is) = subst (λ z. test z ≡ true) is (and_parts (test y) (list_all test xs) h).0
  each_tested test (y ∷ xs) h x (suc k, lt, is) = each_tested test xs (and_parts (test y) (list_all test xs) h).1 x (k, omega arith, is)

  pub test_each : (test : T → Bool) (xs : List T) → ((x : T) → Contains xs x → test x ≡ true) → list_all test xs ≡ true
  test_each test [] h = refl
  test_each test (y ∷ xs) h = rw (h y (0, omega arith, refl), test_each test xs (λ x found. h x (Contains-cons y x xs found))) refl

  count-cons : (p : T → Bool) (y : T) (xs : List T) → count_by p (y ∷ xs) ≡ cond (p y) 1 0 + count_by p xs
  count-cons p y xs = omega (arith, sum_by-cons (λ x. cond (p x) 1 0) y xs)

  count-alike : (p q : T → Bool) → ((x : T) → p x ≡ q x) → (xs : List T) → count_by p xs ≡ count_by q xs
  count-alike p q h [] = refl
  count-alike p q h (x ∷ xs) = count-cons p x xs ∙ rw (h x, count-alike p q h xs) (sym (count-cons q x xs))

  count-IsPermutation : (p : T → Bool) (xs ys : List T) → IsPermutation xs ys → count_by p xs ≡ count_by p ys
  count-IsPermutation p xs ys h = sym (sum_by-IsPermutation (λ x. cond (p x) 1 0) xs ys h)

  counted : (p : T → Bool) (xs : List T) (x : T) → Contains xs x → p x ≡ true → 0 < count_by p xs
  counted p [] x found h = absurd (omega (arith, found.1))
  counted p (y ∷ xs) x (zero, lt, is) h =
      let here : p y ≡ true = ap p is ∙ h in
      rw (count-cons p y xs, here) (omega arith)
  counted p (y ∷ xs) x (suc k, lt, is) h =
      let rest = counted p xs x (k, omega arith, is) h in
      omega (arith, count-cons p y xs)

  -- an element that is counted is in the list
  standing : (p : T → Bool) (xs : List T) → 0 < count_by p xs → (y : T) × Contains xs y × (p y ≡ true)
  standing p [] h = absurd (omega arith)
  standing p (x ∷ xs) h =
      split (λ b. 0 < cond b 1 0 + count_by p xs → (y : T) × Contains (x ∷ xs) y × (p y ≡ true)) (p x)
      (λ yes _. (x, (0, omega arith, refl), yes))
      (λ _ some. let rest = standing p xs (omega arith) in (rest.0, Contains-cons x rest.0 xs rest.1, rest.2))
      (subst (λ n. 0 < n) (count-cons p x xs) h)

  module _ (P : T → T → Bool) (per : IsPartialEquivalence P) where
    -- each member pairs with itself, and with as many members of one bag as of the other
    abbrev Balanced : List T → List T → Type 0
    Balanced bag other = (x : T) → Either bag other x → (P x x ≡ true) × (count_by (P x) bag ≡ count_by (P x) other)

    abbrev test_of : List T → List T → Bool
    test_of bag other = list_all (λ x. P x x && (count_by (P x) bag == count_by (P x) other)) (bag ++ other)

    balanced : (bag other : List T) → test_of bag other ≡ true → Balanced bag other
    balanced bag other h x found =
        let there : Contains (bag ++ other) x = elim found [ inl f ↦ Contains-append_left bag other x f | inr f ↦ Contains-append_right bag other x f ] in
        let both = and_parts (P x x) (count_by (P x) bag == count_by (P x) other) (each_tested (λ x. P x x && (count_by (P x) bag == count_by (P x) other)) (bag ++ other) h x there) in
        (both.0, eqb-true _ _ both.1)

    tested : (bag other : List T) → Balanced bag other → test_of bag other ≡ true
    tested bag other h =
        test_each (λ x. P x x && (count_by (P x) bag == count_by (P x) other)) (bag ++ other)
        (λ x found. let both = h x (Contains-append_cases bag other x found) in rw (both.0, eq-eqb _ _ both.1) refl)

    alike : (x y : T) (xs : List T) → P x y ≡ true → count_by (P x) xs ≡ count_by (P y) xs
    alike x y xs h = count-alike (P x) (P y) (λ z. per_alike per x y z h) xs

    balanced-symm : (bag other : List T) → Balanced bag other → Balanced other bag
    balanced-symm bag other h x found =
        let both = h x (elim found [ inl f ↦ inr f | inr f ↦ inl f ]) in
        (both.0, sym both.1)

    -- a member of the first bag has as many partners in the third
    carried : (bag other third : List T) → Balanced bag other → Balanced other third → (x : T) → Contains bag x → (P x x ≡ true) × (count_by (P x) bag ≡ count_by (P x) third)
    carried bag other third h k x found =
        let first = h x (inl found) in
        let some : 0 < count_by (P x) other = omega (arith, counted (P x) bag x found first.0, first.1) in
        let y = standing (P x) other some in
        let second = k y.0 (inl y.1) in
        (first.0, first.1 ∙ alike x y.0 other y.2 ∙ second.1 ∙ sym (alike x y.0 third y.2))

    balanced-trans : (bag other third : List T) → Balanced bag other → Balanced other third → Balanced bag third
    balanced-trans bag other third h k x found =
        elim found [
          | inl f ↦ carried bag other third h k x f
          | inr f ↦
              let back = carried third other bag (balanced-symm other third k) (balanced-symm bag other h) x f in
              (back.0, sym back.1)
        ]

    pub test-equivalence : IsPartialEquivalence test_of
    test-equivalence =
        record {
          symm = λ b c. both_ways (test_of b c) (test_of c b) (λ h. tested c b (balanced-symm b c (balanced b c h))) (λ h. tested b c (balanced-symm c b (balanced c b h)));
          trans = λ b c d h k. tested b d (balanced-trans b c d (balanced b c h) (balanced c d k));
        }

    pub test-refl : ((x : T) → P x x ≡ true) → (bag : List T) → test_of bag bag ≡ true
    test-refl h bag = tested bag bag (λ x found. (h x, refl))

    -- members that pair off are counted alike
    counted_pairs : (xs ys : List T) → AllZip (λ x y. P x y ≡ true) xs ys → (x : T) → count_by (P x) xs ≡ count_by (P x) ys
    counted_pairs [] [] all x = refl
    counted_pairs [] (y ∷ ys) all x = absurd all
    counted_pairs (z ∷ xs) [] all x = absurd all
    counted_pairs (z ∷ xs) (y ∷ ys) all x =
        let same : P x z ≡ P x y = per.symm x z ∙ per_alike per z y x all.0 ∙ per.symm y x in
        count-cons (P x) z xs ∙ rw (same, counted_pairs xs ys all.1 x) (sym (count-cons (P x) y ys))

    left_partner : (xs ys : List T) → AllZip (λ x y. P x y ≡ true) xs ys → (x : T) → Contains xs x → P x x ≡ true
    left_partner [] ys all x found = absurd (omega (arith, found.1))
    left_partner (z ∷ xs) [] all x found = absurd all
    left_partner (z ∷ xs) (y ∷ ys) all x (zero, lt, is) =
        let here : P z z ≡ true = per.trans z y z all.0 (per.symm y z ∙ all.0) in
        subst (λ w. P w w ≡ true) is here
    left_partner (z ∷ xs) (y ∷ ys) all x (suc k, lt, is) = left_partner xs ys all.1 x (k, omega arith, is)

    right_partner : (xs ys : List T) → AllZip (λ x y. P x y ≡ true) xs ys → (y : T) → Contains ys y → P y y ≡ true
    right_partner [] [] all y found = absurd (omega (arith, found.1))
    right_partner [] (z ∷ ys) all y found = absurd all
    right_partner (x ∷ xs) [] all y found = absurd all
    right_partner (x ∷ xs) (z ∷ ys) all y (zero, lt, is) =
        let here : P z z ≡ true = per.trans z x z (per.symm z x ∙ all.0) all.0 in
        subst (λ w. P w w ≡ true) is here
    right_partner (x ∷ xs) (z ∷ ys) all y (suc k, lt, is) = right_partner xs ys all.1 y (k, omega arith, is)

    -- members of two bags pair off exactly if the test is true
    pub test-from_pairs : (bag other matched : List T) → IsPermutation other matched → AllZip (λ x y. P x y ≡ true) bag matched → test_of bag other ≡ true
    test-from_pairs bag other matched p all =
        tested bag other (λ x found.
        let itself : P x x ≡ true = elim found [ inl f ↦ left_partner bag matched all x f | inr f ↦ right_partner bag matched all x (Contains-permutation other matched x p f) ] in
        (itself, counted_pairs bag matched all x ∙ sym (count-IsPermutation (P x) other matched p)))

    nothing : (other : List T) → Balanced [] other → other ≡ []
    nothing [] h = refl
    nothing (y ∷ other) h =
        let found : Contains (y ∷ other) y = (0, omega arith, refl) in
        let both = h y (inr found) in
        absurd (omega (arith, counted (P y) (y ∷ other) y found both.0, both.1))

    -- y is put back before what was matched without it
    put_back : (other rest matched : List T) (y : T) → IsPermutation other (y ∷ rest) → IsPermutation rest matched → IsPermutation other (y ∷ matched)
    put_back other rest matched y p q = IsPermutation-trans other (y ∷ rest) (y ∷ matched) p (IsPermutation-cons y rest matched q)

    pub pairs-from_balanced : (bag other : List T) → Balanced bag other → (matched : List T) × IsPermutation other matched × AllZip (λ x y. P x y ≡ true) bag matched
    pairs-from_balanced [] other h = ([], subst (λ l. IsPermutation l []) (sym (nothing other h)) (IsPermutation-refl []), tt)
    pairs-from_balanced (x ∷ bag) other h =
        let here : Contains (x ∷ bag) x = (0, omega arith, refl) in
        let first = h x (inl here) in
        let some : 0 < count_by (P x) other = omega (arith, counted (P x) (x ∷ bag) x here first.0, first.1) in
        let y = standing (P x) other some in
        let out = taken_out other y.0 y.1 in
        let left : Balanced bag out.0 = λ z found.
        let there : Either (x ∷ bag) other z = elim found [
          | inl f ↦ inl (Contains-cons x z bag f)
          | inr f ↦ inr (Contains-permutation (y.0 ∷ out.0) other z (IsPermutation-sym other (y.0 ∷ out.0) out.1) (Contains-cons y.0 z out.0 f))
        ] in
        let both = h z there in
        let same : P z x ≡ P z y.0 = per.symm z x ∙ per_alike per x y.0 z y.2 ∙ per.symm y.0 z in
        let one = count-cons (P z) x bag in
        let two = count-cons (P z) y.0 out.0 in
        let moved = count-IsPermutation (P z) other (y.0 ∷ out.0) out.1 in
        let alike : cond {A = ℕ} (P z x) 1 0 ≡ cond {A = ℕ} (P z y.0) 1 0 = ap (λ b. cond b 1 0) same in
        (both.0, omega (arith, both.1)) in
        let rest = pairs-from_balanced bag out.0 left in
        (y.0 ∷ rest.0, put_back other out.0 rest.0 y.0 out.1 rest.1, (y.2, rest.2))

  pub is_same-IsSameBag : (ranks : Ranks T) (eq : T → T → Bool) → AreLawful ranks → IsPartialEquivalence eq → (bag other : List T) → is_same ranks eq bag other ≡ true → IsSameBag ranks eq bag other
  is_same-IsSameBag ranks eq laws same bag other h =
      let per = same_item-equivalence ranks eq laws same in
      pairs-from_balanced (same_item ranks eq) per bag other (balanced (same_item ranks eq) per bag other h)

  pub IsSameBag-is_same : (ranks : Ranks T) (eq : T → T → Bool) → AreLawful ranks → IsPartialEquivalence eq → (bag other : List T) → IsSameBag ranks eq bag other → is_same ranks eq bag other ≡ true
  IsSameBag-is_same ranks eq laws same bag other h =
      test-from_pairs (same_item ranks eq) (same_item-equivalence ranks eq laws same) bag other h.0 h.1 h.2

  pub is_same-partial : (ranks : Ranks T) (eq : T → T → Bool) → AreLawful ranks → IsPartialEquivalence eq → IsPartialEquivalence (is_same ranks eq)
  is_same-partial ranks eq laws same = test-equivalence (same_item ranks eq) (same_item-equivalence ranks eq laws same)

  pub is_same-equivalence : (ranks : Ranks T) (eq : T → T → Bool) → AreLawful ranks → IsEquivalence eq → IsEquivalence (is_same ranks eq)
  is_same-equivalence ranks eq laws same =
      let partial = partial_equiv_from_equiv same in
      equiv (is_same-partial ranks eq laws partial)
      (test-refl (same_item ranks eq) (same_item-equivalence ranks eq laws partial) (λ x. rw (agrees-refl ranks laws x, same.refl x) refl))
