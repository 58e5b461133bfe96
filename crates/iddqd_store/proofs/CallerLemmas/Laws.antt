-- What several calls of a map say of each other.
use Rattle.std.specs.Prelude.{◌≡◌, Bool, true, false, cond, List, [], ◌∷◌, ◌++◌, filter, is_some, IsPermutation, Contains, Option}
use Rattle.std.specs.Borrow.{Bor}
use Rattle.std.specs.Cmp.{IsEquivalence, IsPartialEquivalence, partial_equiv_from_equiv}
use Rattle.std.specs.List.{AllByRecursion, AllZip, list_any}
use Rattle.std.specs.Option.{option_copied}
use Rattle.std.proofs.Common.{refl, sym, ap, subst, ◌∙◌}
use Rattle.std.proofs.lemmas.Map.Keys.{IsDistinct-head}
use Rattle.std.proofs.lemmas.List.Sorted.{IsPermutation-sym}
use Rattle.std.proofs.lemmas.Bool.{and_parts}
use Rattle.iddqd_store.specs.Bag.{Ranks, AreLawful, IsOnly, IsSound, every_of, is_same, same_item}
use Rattle.iddqd_store.specs.Rank.{agree}
use Rattle.iddqd_store.proofs.BagLemmas.Entries.{all_of-next}
use Rattle.iddqd_store.proofs.BagLemmas.Same.{agrees-refl}
use Rattle.iddqd_store.proofs.BagLemmas.SameTest.{IsSameBag-is_same, is_same-partial, is_same-equivalence}
use Rattle.iddqd_store.proofs.BagLemmas.Sound.{IsSound-IsPermutation, none_pass}
use Rattle.iddqd_store.proofs.BagLemmas.Unique.{any_listed, is_some-found, some_item}
use Rattle.iddqd_store.proofs.CallerLemmas.{distinct_at, passes-listed}
use Rattle.iddqd_store.proofs.RankLemmas.Index.{Contains-here}

module _ {T : Type 0} where
  -- the item that a lookup gives passes, and is a member
  pub given-has : (test : T → Bool) (bag : List T) (x : T) → x ∷ [] ≡ filter test bag → test x ≡ true
  given-has test bag x is = (passes-listed test bag x (subst (λ l. Contains l x) is (Contains-here x []))).1

  each_of : (tests : List (T → Bool)) (x : T) → every_of tests x ≡ true → AllByRecursion (λ test. test x ≡ true) tests
  each_of [] x all = tt
  each_of (test ∷ tests) x all =
      let both = and_parts (test x) (every_of tests x) all in
      (both.0, each_of tests x both.1)

  -- a lookup by all keys gives an item that passes each test
  pub given-each : (tests : List (T → Bool)) (bag : List T) (x : T) → x ∷ [] ≡ filter (every_of tests) bag → AllByRecursion (λ test. test x ≡ true) tests
  given-each tests bag x is = each_of tests x (given-has (every_of tests) bag x is)

  pub given-listed : (test : T → Bool) (bag : List T) (x : T) → x ∷ [] ≡ filter test bag → list_any test bag ≡ true
  given-listed test bag x is = any_listed test bag ∙ ap some_item (sym is)

  -- a lookup gives something exactly if a member passes
  pub given-some : (test : T → Bool) (bag : List T) (given : Option (Bor T)) → IsOnly test bag (option_copied given) → is_some given ≡ list_any test bag
  given-some test bag given only = is_some-found test bag given only

  -- if it gives nothing, no member passes
  pub none-listed : (test : T → Bool) (bag : List T) → [] ≡ filter test bag → list_any test bag ≡ false
  none-listed test bag is = any_listed test bag ∙ ap some_item (sym is)

  some_if : (b : Bool) (x : T) → some_item (cond b (x ∷ []) []) ≡ b
  some_if true x = refl
  some_if false x = refl

  given-first : (first : T → Bool) (tests : List (T → Bool)) (bag listed : List T) (given : Option (Bor T)) → listed ≡ filter first bag
      → IsOnly (every_of (first ∷ tests)) bag (option_copied given) → is_some given ≡ some_item (filter (every_of tests) listed)
  given-first first tests bag listed given is only =
      is_some-found (every_of (first ∷ tests)) bag given only ∙ any_listed (every_of (first ∷ tests)) bag ∙ ap some_item (all_of-next first tests bag ∙ ap (filter (every_of tests)) (sym is))

  -- a lookup by all keys gives something exactly if the item of the first one has the others too
  pub given-unique : (first : T → Bool) (tests : List (T → Bool)) (bag : List T) (x : T) (given : Option (Bor T)) → x ∷ [] ≡ filter first bag
      → IsOnly (every_of (first ∷ tests)) bag (option_copied given) → is_some given ≡ every_of tests x
  given-unique first tests bag x given is only = given-first first tests bag (x ∷ []) given is only ∙ some_if (every_of tests x) x

  pub none-unique : (first : T → Bool) (tests : List (T → Bool)) (bag : List T) (given : Option (Bor T)) → [] ≡ filter first bag
      → IsOnly (every_of (first ∷ tests)) bag (option_copied given) → is_some given ≡ false
  none-unique first tests bag given is only = given-first first tests bag [] given is only

  -- an item that left is no longer found by its key of a rank; `first` and `rest` are the ranks before and after it
  pub gone-key : {K : Type 0} (first rest : Ranks T) (key : T → K) (eq : K → K → Bool) → AreLawful (first ++ agree key eq ∷ rest)
      → (old bag : List T) (x : T) (k : K) → IsSound (first ++ agree key eq ∷ rest) old → IsPermutation old (x ∷ bag) → k ≡ key x
      → list_any (λ y. eq k (key y)) bag ≡ false
  gone-key first rest key eq laws old bag x k sound taken is =
      let apart = distinct_at first rest (agree key eq) (x ∷ bag) (IsSound-IsPermutation (first ++ agree key eq ∷ rest) laws old (x ∷ bag) taken sound) in
      rw is (any_listed (λ y. eq (key x) (key y)) bag ∙ ap some_item (none_pass (λ y. eq (key x) (key y)) bag (IsDistinct-head (agree key eq) x bag apart)))

-- Equality of bags is an equivalence if that of items is one, and bags with the same members are equal.
module _ {T : Type 0} (ranks : Ranks T) (laws : AreLawful ranks) (eq : T → T → Bool) where
  pub equal-symm : IsPartialEquivalence eq → (xs ys : List T) → is_same ranks eq xs ys ≡ is_same ranks eq ys xs
  equal-symm same = (is_same-partial ranks eq laws same).symm

  pub equal-trans : IsPartialEquivalence eq → (xs ys zs : List T) → is_same ranks eq xs ys ≡ true → is_same ranks eq ys zs ≡ true → is_same ranks eq xs zs ≡ true
  equal-trans same = (is_same-partial ranks eq laws same).trans

  module _ (same : IsEquivalence eq) where
    pub equal-refl : (xs : List T) → is_same ranks eq xs xs ≡ true
    equal-refl = (is_same-equivalence ranks eq laws same).refl

    each_itself : (xs : List T) → AllZip (λ x y. same_item ranks eq x y ≡ true) xs xs
    each_itself [] = tt
    each_itself (x ∷ xs) = (rw (agrees-refl ranks laws x, same.refl x) refl, each_itself xs)

    pub equal-permuted : (xs ys : List T) → IsPermutation xs ys → is_same ranks eq xs ys ≡ true
    equal-permuted xs ys moved =
        IsSameBag-is_same ranks eq laws (partial_equiv_from_equiv same) xs ys (xs, IsPermutation-sym xs ys moved, each_itself xs)
