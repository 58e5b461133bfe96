-- When two bags are the same.
use Rattle.std.specs.Prelude.{◌≡◌, zero, suc, ◌<◌, Bool, true, false, List, [], ◌∷◌, length, IsPermutation, Contains}
use Rattle.std.specs.Cmp.{IsPartialEquivalence}
use Rattle.std.specs.List.{AllByRecursion, AllZip}
use Rattle.std.proofs.Common.{refl, sym, subst, ◌∙◌, arith}
use Rattle.std.proofs.lemmas.Bool.{false≢true, and_parts}
use Rattle.std.proofs.lemmas.Map.Keys.{IsDistinct-head, IsDistinct-tail, IsDistinct-cons}
use Rattle.std.proofs.lemmas.List.Sorted.{IsPermutation-refl, IsPermutation-sym, IsPermutation-cons, IsPermutation-trans, length_permutation, Contains-permutation}
use Rattle.std.proofs.lemmas.List.Elements.{length_all_zip}
use Rattle.iddqd_store.proofs.BagLemmas.Exchanges.{IsPermutation-flip}
use Rattle.iddqd_store.proofs.BagLemmas.Sound.{IsSound-IsPermutation, do_conflict-symm}
use Rattle.iddqd_store.proofs.BagLemmas.Steps.{agrees-do_conflict}
use Rattle.iddqd_store.specs.Bag.{Ranks, do_conflict, agrees, same_item, IsSound, AreLawful, IsSameBag, IsCopy}
use Rattle.iddqd_store.proofs.RankLemmas.Index.{Contains-cons}

module _ {T : Type 0} where
  pub agrees-refl : (ranks : Ranks T) → AreLawful ranks → (x : T) → agrees ranks x x ≡ true
  agrees-refl [] h x = refl
  agrees-refl (agree ∷ ranks) h x = rw (h.0.refl x, agrees-refl ranks h.1 x) refl

  pub agrees-symm : (ranks : Ranks T) → AreLawful ranks → (x y : T) → agrees ranks x y ≡ agrees ranks y x
  agrees-symm [] h x y = refl
  agrees-symm (agree ∷ ranks) h x y = rw (h.0.symm x y, agrees-symm ranks h.1 x y) refl

  pub agrees-trans : (ranks : Ranks T) → AreLawful ranks → (x y z : T) → agrees ranks x y ≡ true → agrees ranks y z ≡ true → agrees ranks x z ≡ true
  agrees-trans [] h x y z p q = refl
  agrees-trans (agree ∷ ranks) h x y z p q =
      let first = and_parts (agree x y) (agrees ranks x y) p in
      let second = and_parts (agree y z) (agrees ranks y z) q in
      rw (h.0.congr x y z first.0 ∙ second.0, agrees-trans ranks h.1 x y z first.1 second.1) refl

  pub same_item-equivalence : (ranks : Ranks T) (eq : T → T → Bool) → AreLawful ranks → IsPartialEquivalence eq → IsPartialEquivalence (same_item ranks eq)
  same_item-equivalence ranks eq laws same =
      record {
        symm = λ x y. rw (agrees-symm ranks laws x y, same.symm x y) refl;
        trans = λ x y z p q.
            let first = and_parts (agrees ranks x y) (eq x y) p in
            let second = and_parts (agrees ranks y z) (eq y z) q in
            rw (agrees-trans ranks laws x y z first.0 second.0, same.trans x y z first.1 second.1) refl;
      }

  pub IsSameBag-length : (ranks : Ranks T) (eq : T → T → Bool) (bag other : List T) → IsSameBag ranks eq bag other → length bag ≡ length other
  IsSameBag-length ranks eq bag other h = length_all_zip (λ x y. same_item ranks eq x y ≡ true) bag h.0 h.2 ∙ length_permutation _ _ h.1

  -- a member has its partner among the other members
  abbrev pub HasPair : Ranks T → (T → T → Bool) → List T → T → Type 0
  HasPair ranks eq other x = (y : T) × Contains other y × (same_item ranks eq x y ≡ true)

  pub IsSameBag-pair : (ranks : Ranks T) (eq : T → T → Bool) (bag other : List T) → IsSameBag ranks eq bag other → (x : T) → Contains bag x → HasPair ranks eq other x
  IsSameBag-pair ranks eq bag other h x found =
      let pair = partner bag h.0 h.2 found in
      (pair.0, Contains-permutation h.0 other pair.0 (IsPermutation-sym _ _ h.1) pair.1, pair.2)
    where
      partner : (xs ys : List T) → AllZip (λ x y. same_item ranks eq x y ≡ true) xs ys → Contains xs x → (y : T) × Contains ys y × same_item ranks eq x y ≡ true
      partner [] ys all found = absurd (omega (arith, found.1))
      partner (z ∷ xs) [] all found = absurd all
      partner (z ∷ xs) (y ∷ ys) all (zero, lt, is) = (y, (0, omega arith, refl), subst (λ z. same_item ranks eq z y ≡ true) is all.0)
      partner (z ∷ xs) (y ∷ ys) all (suc k, lt, is) =
          let rest = partner xs ys all.1 (k, omega arith, is) in
          (rest.0, (suc rest.1.0, omega (arith, rest.1.1), rest.1.2), rest.2)

  nothing : (xs : List T) → 0 ≡ length xs → xs ≡ []
  nothing [] h = refl
  nothing (x ∷ xs) h = absurd (omega arith)

  pub taken_out : (xs : List T) (x : T) → Contains xs x → (rest : List T) × IsPermutation xs (x ∷ rest)
  taken_out [] x found = absurd (omega (arith, found.1))
  taken_out (y ∷ ys) x (zero, lt, is) = (ys, subst (λ z. IsPermutation (z ∷ ys) (x ∷ ys)) (sym is) (IsPermutation-refl (x ∷ ys)))
  taken_out (y ∷ ys) x (suc k, lt, is) =
      let rest = taken_out ys x (k, omega arith, is) in
      (y ∷ rest.0, IsPermutation-trans _ _ _ (IsPermutation-cons y _ _ rest.1) (IsPermutation-flip y x rest.0))

  agrees-conflict : (ranks : Ranks T) → 0 < length ranks → (x y : T) → agrees ranks x y ≡ true → do_conflict ranks x y ≡ true
  agrees-conflict [] some x y h = absurd (omega arith)
  agrees-conflict (agree ∷ ranks) some x y h = rw (and_parts (agree x y) (agrees ranks x y) h).0 refl

  -- the partners of x and of the rest of a sound bag differ
  others_pair : (ranks : Ranks T) (eq : T → T → Bool) → AreLawful ranks → 0 < length ranks → (x y : T) (xs other rest : List T)
      → IsPermutation other (y ∷ rest) → agrees ranks x y ≡ true → AllByRecursion (λ z. do_conflict ranks x z ≡ false) xs
      → AllByRecursion (HasPair ranks eq other) xs → AllByRecursion (HasPair ranks eq rest) xs
  others_pair ranks eq laws some x y [] other rest p same apart pairs = tt
  others_pair ranks eq laws some x y (z ∷ xs) other rest p same apart pairs =
      (by_place (Contains-permutation _ _ _ p pairs.0.1), others_pair ranks eq laws some x y xs other rest p same apart.1 pairs.1)
    where
      by_place : Contains (y ∷ rest) pairs.0.0 → HasPair ranks eq rest z
      by_place (zero, lt, is) =
          let there : agrees ranks z y ≡ true = rw is (and_parts (agrees ranks z pairs.0.0) (eq z pairs.0.0) pairs.0.2).0 in
          let alike = agrees-trans ranks laws x y z same (agrees-symm ranks laws y z ∙ there) in
          absurd (false≢true (sym apart.0 ∙ agrees-conflict ranks some x z alike))
      by_place (suc k, lt, is) = (pairs.0.0, (k, omega arith, is), pairs.0.2)

  -- if there are as many members, and each member of a sound bag has a partner, the bags are the same
  pub IsSameBag-from_pairs : (ranks : Ranks T) (eq : T → T → Bool) → AreLawful ranks → 0 < length ranks → (bag other : List T) → IsSound ranks bag
      → length bag ≡ length other → AllByRecursion (HasPair ranks eq other) bag → IsSameBag ranks eq bag other
  IsSameBag-from_pairs ranks eq laws some [] other sound long pairs = ([], subst (λ l. IsPermutation l []) (sym (nothing other long)) (IsPermutation-refl []), tt)
  IsSameBag-from_pairs ranks eq laws some (x ∷ xs) other sound long pairs =
      let y = pairs.0.0 in
      let out = taken_out other y pairs.0.1 in
      let same = (and_parts (agrees ranks x y) (eq x y) pairs.0.2).0 in
      let left = others_pair ranks eq laws some x y xs other out.0 out.1 same (IsDistinct-head (do_conflict ranks) x xs sound) pairs.1 in
      let fewer : length xs ≡ length out.0 = omega (arith, length_permutation _ _ out.1) in
      let rest = IsSameBag-from_pairs ranks eq laws some xs out.0 (IsDistinct-tail (do_conflict ranks) x xs sound) fewer left in
      (y ∷ rest.0, IsPermutation-trans _ _ _ out.1 (IsPermutation-cons y _ _ rest.1), (pairs.0.2, rest.2))

  -- if a clone has the keys of its source, a copy of a sound bag is sound
  copies-apart : (is_clone : T → T → Type 0) (ranks : Ranks T) → AreLawful ranks → (x c : T) (xs cs : List T) → agrees ranks x c ≡ true
      → ((y d : T) → Contains (x ∷ xs) y → is_clone y d → agrees ranks y d ≡ true) → AllZip is_clone xs cs
      → AllByRecursion (λ y. do_conflict ranks x y ≡ false) xs → AllByRecursion (λ d. do_conflict ranks c d ≡ false) cs
  copies-apart is_clone ranks laws x c [] [] same keys all apart = tt
  copies-apart is_clone ranks laws x c [] (d ∷ cs) same keys all apart = absurd all
  copies-apart is_clone ranks laws x c (y ∷ xs) [] same keys all apart = absurd all
  copies-apart is_clone ranks laws x c (y ∷ xs) (d ∷ cs) same keys all apart =
      let there = keys y d (1, omega arith, refl) all.0 in
      let first = sym (agrees-do_conflict ranks laws x c d same) in
      let second = do_conflict-symm ranks laws x d ∙ sym (agrees-do_conflict ranks laws y d x there) ∙ do_conflict-symm ranks laws y x in
      (first ∙ second ∙ apart.0, copies-apart is_clone ranks laws x c xs cs same (λ z e found. keys z e (skip y x z xs found)) all.1 apart.1)
    where
      skip : (y x z : T) (xs : List T) → Contains (x ∷ xs) z → Contains (x ∷ y ∷ xs) z
      skip y x z xs (zero, lt, is) = (0, omega arith, is)
      skip y x z xs (suc k, lt, is) = (suc (suc k), omega arith, is)

  copies-sound : (is_clone : T → T → Type 0) (ranks : Ranks T) → AreLawful ranks → (xs cs : List T)
      → ((y d : T) → Contains xs y → is_clone y d → agrees ranks y d ≡ true) → AllZip is_clone xs cs → IsSound ranks xs → IsSound ranks cs
  copies-sound is_clone ranks laws [] [] keys all sound = sound
  copies-sound is_clone ranks laws [] (c ∷ cs) keys all sound = absurd all
  copies-sound is_clone ranks laws (x ∷ xs) [] keys all sound = absurd all
  copies-sound is_clone ranks laws (x ∷ xs) (c ∷ cs) keys all sound =
      IsDistinct-cons (do_conflict ranks) c cs
      (copies-apart is_clone ranks laws x c xs cs (keys x c (0, omega arith, refl) all.0) keys all.1 (IsDistinct-head (do_conflict ranks) x xs sound))
      (copies-sound is_clone ranks laws xs cs (λ y d found. keys y d (Contains-cons x y xs found)) all.1 (IsDistinct-tail (do_conflict ranks) x xs sound))

  pub IsSound-copy : (is_clone : T → T → Type 0) (ranks : Ranks T) → AreLawful ranks → (bag copy : List T)
      → ((x c : T) → Contains bag x → is_clone x c → agrees ranks x c ≡ true) → IsCopy is_clone bag copy → IsSound ranks bag → IsSound ranks copy
  IsSound-copy is_clone ranks laws bag copy keys h sound =
      IsSound-IsPermutation ranks laws h.0 copy (IsPermutation-sym _ _ h.1) (copies-sound is_clone ranks laws bag h.0 keys h.2 sound)
