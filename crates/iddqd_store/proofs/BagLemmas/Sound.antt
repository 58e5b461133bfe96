-- What holds of sound bags, and of a bag and its permutation.
use Rattle.std.specs.Prelude.{◌≡◌, zero, suc, ◌+◌, ◌≤◌, Bool, true, false, cond, not, ◌&&◌, ◌||◌, List, [], ◌∷◌, ◌++◌, length, filter, IsPermutation, Contains}
use Rattle.std.specs.List.{IsDistinct, AllByRecursion}
use Rattle.std.proofs.Common.{refl, sym, ap, subst, ◌∙◌, arith, get_or}
use Rattle.std.proofs.lemmas.Map.Keys.{IsDistinct-head, IsDistinct-tail, IsDistinct-cons, IsDistinct-IsPermutation}
use Rattle.std.proofs.lemmas.Bool.{false≢true, or_parts, not-true}
use Rattle.std.proofs.lemmas.List.Sorted.{IsPermutation-refl, IsPermutation-cons, IsPermutation-trans, IsPermutation-middle, IsPermutation-append, length_permutation, Contains-permutation}
use Rattle.std.proofs.lemmas.List.Filters.{length-filter_both}
use Rattle.iddqd_store.proofs.BagLemmas.Exchanges.{split, IsPermutation-filter}
use Rattle.iddqd_store.specs.Bag.{Ranks, some_of, listing, remainder, tests_of, do_conflict, IsSound, conflicts_of, conflicting, with_item, NamesOne, AreLawful, AreNames}

module _ {T : Type 0} where
  pub each_weaker : (P Q : T → Type 0) → ((x : T) → P x → Q x) → (xs : List T) → AllByRecursion P xs → AllByRecursion Q xs
  each_weaker P Q f [] h = h
  each_weaker P Q f (x ∷ xs) h = (f x h.0, each_weaker P Q f xs h.1)

  pub none_pass : (p : T → Bool) (xs : List T) → AllByRecursion (λ y. p y ≡ false) xs → filter p xs ≡ []
  none_pass p [] h = refl
  none_pass p (x ∷ xs) h = rw h.0 (none_pass p xs h.1)

  pub each-filter : (P : T → Type 0) (p : T → Bool) (xs : List T) → AllByRecursion P xs → AllByRecursion P (filter p xs)
  each-filter P p [] h = h
  each-filter P p (x ∷ xs) h =
      let rest = each-filter P p xs h.1 in
      split (λ s. AllByRecursion P (cond s (x ∷ filter p xs) (filter p xs))) (p x) (λ _. (h.0, rest)) (λ _. rest)

  pub each_passes : (p : T → Bool) (xs : List T) → AllByRecursion (λ x. p x ≡ true) (filter p xs)
  each_passes p [] = tt
  each_passes p (x ∷ xs) =
      let rest = each_passes p xs in
      split (λ s. AllByRecursion (λ x. p x ≡ true) (cond s (x ∷ filter p xs) (filter p xs))) (p x) (λ e. (e, rest)) (λ _. rest)

  pub IsDistinct-nil : (e : T → T → Bool) → IsDistinct e []
  unfolding IsDistinct
  IsDistinct-nil e = tt

  pub IsDistinct-filter : (e : T → T → Bool) (p : T → Bool) (xs : List T) → IsDistinct e xs → IsDistinct e (filter p xs)
  IsDistinct-filter e p [] h = h
  IsDistinct-filter e p (x ∷ xs) h =
      let rest = IsDistinct-filter e p xs (IsDistinct-tail e x xs h) in
      split (λ s. IsDistinct e (cond s (x ∷ filter p xs) (filter p xs))) (p x)
      (λ _. IsDistinct-cons e x (filter p xs) (each-filter _ p xs (IsDistinct-head e x xs h)) rest)
      (λ _. rest)

  -- an item without the key does not pass a test that names the key
  pub NamesOne-apart : (agree : T → T → Bool) (test : T → Bool) → NamesOne agree test → (x y : T) → test x ≡ true → agree x y ≡ false → test y ≡ false
  NamesOne-apart agree test names x y passes apart =
      let by : (b : Bool) → test y ≡ b → b ≡ false = λ b. elim b as (λ b. test y ≡ b → b ≡ false) [ true ↦ (λ e. absurd (false≢true (sym apart ∙ names x y passes e))) | false ↦ (λ e. refl) ] in
      by (test y) refl

  -- at most one member has the named key
  pub length-named : (agree : T → T → Bool) (test : T → Bool) → NamesOne agree test → (xs : List T) → IsDistinct agree xs → length (filter test xs) ≤ 1
  length-named agree test names [] h = omega arith
  length-named agree test names (x ∷ xs) h =
      let rest = length-named agree test names xs (IsDistinct-tail agree x xs h) in
      split (λ s. length (cond s (x ∷ filter test xs) (filter test xs)) ≤ 1) (test x)
      (λ passes.
      let none = none_pass test xs (each_weaker _ _ (λ y apart. NamesOne-apart agree test names x y passes apart) xs (IsDistinct-head agree x xs h)) in
      omega (arith, ap length none))
      (λ _. rest)

  -- a sound bag is distinct at each rank
  pub IsSound-rank : (agree : T → T → Bool) (ranks : Ranks T) (xs : List T) → IsSound (agree ∷ ranks) xs → IsDistinct agree xs × IsSound ranks xs
  IsSound-rank agree ranks [] h = (IsDistinct-nil agree, IsDistinct-nil (do_conflict ranks))
  IsSound-rank agree ranks (x ∷ xs) h =
      let head = IsDistinct-head (do_conflict (agree ∷ ranks)) x xs h in
      let rest = IsSound-rank agree ranks xs (IsDistinct-tail (do_conflict (agree ∷ ranks)) x xs h) in (
        IsDistinct-cons agree x xs (each_weaker _ _ (λ y e. (or_parts (agree x y) (do_conflict ranks x y) e).0) xs head) rest.0,
        IsDistinct-cons (do_conflict ranks) x xs (each_weaker _ _ (λ y e. (or_parts (agree x y) (do_conflict ranks x y) e).1) xs head) rest.1,
      )

  -- the tests of an item's own keys are names
  pub AreNames-tests_of : (ranks : Ranks T) (x : T) → AreLawful ranks → AreNames ranks (tests_of ranks x)
  AreNames-tests_of [] x h = refl
  AreNames-tests_of (agree ∷ ranks) x h = (λ y z p q. sym (h.0.congr x y z p) ∙ q, AreNames-tests_of ranks x h.1)

  pub filter_twice : (p q : T → Bool) (xs : List T) → filter q (filter p xs) ≡ filter (λ x. p x && q x) xs
  filter_twice p q [] = refl
  filter_twice p q (x ∷ xs) =
      let rest = filter_twice p q xs in
      split (λ s. filter q (cond s (x ∷ filter p xs) (filter p xs)) ≡ cond (s && q x) (x ∷ filter (λ x. p x && q x) xs) (filter (λ x. p x && q x) xs)) (p x)
      (λ _. ap (λ l. cond (q x) (x ∷ l) l) rest)
      (λ _. rest)

  -- one test, and then the other on the rest, finds what either test finds
  pub IsPermutation-either : (p q : T → Bool) (xs : List T) → IsPermutation (filter p xs ++ filter q (filter (λ x. not (p x)) xs)) (filter (λ x. p x || q x) xs)
  IsPermutation-either p q [] = IsPermutation-refl []
  IsPermutation-either p q (x ∷ xs) =
      let rest = IsPermutation-either p q xs in
      let us : List T = filter p xs in
      let vs : List T = filter (λ x. not (p x)) xs in
      let ws : List T = filter (λ x. p x || q x) xs in
      split (λ s. IsPermutation (cond s (x ∷ us) us ++ filter q (cond (not s) (x ∷ vs) vs)) (cond (s || q x) (x ∷ ws) ws)) (p x)
      (λ _. IsPermutation-cons x _ _ rest)
      (λ _. split (λ s. IsPermutation (us ++ cond s (x ∷ filter q vs) (filter q vs)) (cond s (x ∷ ws) ws)) (q x)
      (λ _. IsPermutation-trans _ _ _ (IsPermutation-middle us x (filter q vs)) (IsPermutation-cons x _ _ rest))
      (λ _. rest))

  -- a listing has the members that pass some test
  pub IsPermutation-listing : (tests : List (T → Bool)) (xs : List T) → IsPermutation (listing tests xs) (filter (some_of tests) xs)
  IsPermutation-listing [] xs = subst (λ l. IsPermutation [] l) (sym (none xs)) (IsPermutation-refl [])
    where
      none : (xs : List T) → filter (λ x. false) xs ≡ []
      none [] = refl
      none (x ∷ xs) = none xs
  IsPermutation-listing (test ∷ tests) xs =
      IsPermutation-trans _ _ _
      (IsPermutation-append (filter test xs) (filter test xs) _ _ (IsPermutation-refl _) (IsPermutation-listing tests (filter (λ x. not (test x)) xs)))
      (IsPermutation-either test (some_of tests) xs)

  pub IsPermutation-conflicting : (ranks : Ranks T) (bag : List T) (x : T) → IsPermutation (conflicting ranks bag x) (conflicts_of ranks bag x)
  IsPermutation-conflicting ranks bag x = IsPermutation-listing (tests_of ranks x) bag

  -- a bag overwritten by x is sound, and has x in the place of what conflicts
  pub IsSound-with_item : (ranks : Ranks T) (bag : List T) (x : T) → IsSound ranks bag → IsSound ranks (with_item ranks bag x)
  IsSound-with_item ranks bag x h =
      let rest : List T = remainder (tests_of ranks x) bag in
      IsDistinct-cons (do_conflict ranks) x rest
      (each_weaker _ _ (λ y e. not-true (do_conflict ranks x y) e) rest (each_passes (λ y. not (some_of (tests_of ranks x) y)) bag))
      (IsDistinct-filter (do_conflict ranks) (λ y. not (some_of (tests_of ranks x) y)) bag h)

  pub length-with_item : (ranks : Ranks T) (bag : List T) (x : T) → length (with_item ranks bag x) + length (conflicts_of ranks bag x) ≡ suc (length bag)
  length-with_item ranks bag x = omega (arith, length-filter_both (do_conflict ranks x) (λ y. not (some_of (tests_of ranks x) y)) (λ _. refl) bag)

  pub do_conflict-symm : (ranks : Ranks T) → AreLawful ranks → (x y : T) → do_conflict ranks x y ≡ do_conflict ranks y x
  do_conflict-symm [] h x y = refl
  do_conflict-symm (agree ∷ ranks) h x y = rw (h.0.symm x y, do_conflict-symm ranks h.1 x y)

  pub IsSound-IsPermutation : (ranks : Ranks T) → AreLawful ranks → (xs ys : List T) → IsPermutation xs ys → IsSound ranks xs → IsSound ranks ys
  IsSound-IsPermutation ranks laws = IsDistinct-IsPermutation (do_conflict ranks) (do_conflict-symm ranks laws)

module _ {T : Type 0} where
  -- a list of one element has one order
  pub same_from_short : (xs ys : List T) → IsPermutation xs ys → length xs ≤ 1 → xs ≡ ys
  same_from_short [] [] h short = refl
  same_from_short [] (y ∷ ys) h short = absurd (omega (arith, length_permutation [] (y ∷ ys) h))
  same_from_short (x ∷ xs) [] h short = absurd (omega (arith, length_permutation (x ∷ xs) [] h))
  same_from_short (x ∷ y ∷ xs) (z ∷ ys) h short = absurd (omega arith)
  same_from_short (x ∷ []) (y ∷ z ∷ ys) h short = absurd (omega (arith, length_permutation (x ∷ []) (y ∷ z ∷ ys) h))
  same_from_short (x ∷ []) (y ∷ []) h short =
      let found = Contains-permutation (x ∷ []) (y ∷ []) x h (0, omega arith, refl) in
      let first : found.0 ≡ 0 = omega (arith, found.1) in
      let is : y ≡ x = ap (λ k. get_or (y ∷ []) k x) (sym first) ∙ found.2 in
      ap (λ z. z ∷ []) (sym is)

  -- the members with a named key are the same list in a permutation of a sound bag
  pub named-IsPermutation : (agree : T → T → Bool) (test : T → Bool) → NamesOne agree test → (xs ys : List T) → IsDistinct agree xs → IsPermutation xs ys → filter test xs ≡ filter test ys
  named-IsPermutation agree test names xs ys h p =
      same_from_short (filter test xs) (filter test ys) (IsPermutation-filter test xs ys p) (length-named agree test names xs h)

  -- a listing by names is the same list in a permutation too
  pub listing-IsPermutation : (ranks : Ranks T) (tests : List (T → Bool)) → AreNames ranks tests → (xs ys : List T) → IsSound ranks xs → IsPermutation xs ys → listing tests xs ≡ listing tests ys
  listing-IsPermutation [] tests names xs ys h p = rw names refl
  listing-IsPermutation (agree ∷ ranks) [] names xs ys h p = absurd names
  listing-IsPermutation (agree ∷ ranks) (test ∷ tests) names xs ys h p =
      let apart = IsSound-rank agree ranks xs h in
      let others : List T → List T = filter (λ x. not (test x)) in
      let first = named-IsPermutation agree test names.0 xs ys apart.0 p in
      let rest = listing-IsPermutation ranks tests names.1 (others xs) (others ys)
      (IsDistinct-filter (do_conflict ranks) (λ x. not (test x)) xs apart.1) (IsPermutation-filter (λ x. not (test x)) xs ys p) in
      ap (λ l. l ++ listing tests (others xs)) first ∙ ap (λ l. filter test ys ++ l) rest

  pub conflicting-IsPermutation : (ranks : Ranks T) → AreLawful ranks → (xs ys : List T) (x : T) → IsSound ranks xs → IsPermutation xs ys → conflicting ranks xs x ≡ conflicting ranks ys x
  conflicting-IsPermutation ranks laws xs ys x = listing-IsPermutation ranks (tests_of ranks x) (AreNames-tests_of ranks x laws) xs ys

  pub with_item-IsPermutation : (ranks : Ranks T) (xs ys : List T) (x : T) → IsPermutation xs ys → IsPermutation (with_item ranks xs x) (with_item ranks ys x)
  with_item-IsPermutation ranks xs ys x p = IsPermutation-cons x _ _ (IsPermutation-filter (λ y. not (some_of (tests_of ranks x) y)) xs ys p)

  pub Contains-filter : (p : T → Bool) (xs : List T) (x : T) → p x ≡ true → Contains xs x → Contains (filter p xs) x
  Contains-filter p [] x e found = absurd (omega (arith, found.1))
  Contains-filter p (y ∷ ys) x e (zero, lt, is) = rw (ap p is ∙ e) (0, omega arith, is)
  Contains-filter p (y ∷ ys) x e (suc k, lt, is) =
      let rest = Contains-filter p ys x e (k, omega arith, is) in
      split (λ b. Contains (cond b (y ∷ filter p ys) (filter p ys)) x) (p y) (λ _. (suc rest.0, omega (arith, rest.1), rest.2)) (λ _. rest)

  pub only_one : (xs : List T) (x : T) → length xs ≤ 1 → Contains xs x → xs ≡ x ∷ []
  only_one [] x short found = absurd (omega (arith, found.1))
  only_one (y ∷ z ∷ xs) x short found = absurd (omega arith)
  only_one (y ∷ []) x short found =
      let first : found.0 ≡ 0 = omega (arith, found.1) in
      ap (λ z. z ∷ []) (ap (λ k. get_or (y ∷ []) k x) (sym first) ∙ found.2)

  -- a member with the named key is the one that is named
  pub named_is : (agree : T → T → Bool) (test : T → Bool) → NamesOne agree test → (xs : List T) (x : T) → IsDistinct agree xs → test x ≡ true → Contains xs x → filter test xs ≡ x ∷ []
  named_is agree test names xs x h e found = only_one (filter test xs) x (length-named agree test names xs h) (Contains-filter test xs x e found)

module _ {T : Type 0} where
  pub all_pass : (p : T → Bool) (xs : List T) → AllByRecursion (λ y. p y ≡ true) xs → filter p xs ≡ xs
  all_pass p [] h = refl
  all_pass p (x ∷ xs) h = rw h.0 (ap (λ l. x ∷ l) (all_pass p xs h.1))

  -- the bag that is left after its named member is removed
  pub without_named : (agree : T → T → Bool) (test : T → Bool) → NamesOne agree test → (xs ys : List T) (x : T) → IsDistinct agree (x ∷ ys)
      → test x ≡ true → IsPermutation xs (x ∷ ys) → IsPermutation (filter (λ y. not (test y)) xs) ys
  without_named agree test names xs ys x h e p =
      let kept : AllByRecursion (λ y. not (test y) ≡ true) ys = each_weaker _ _ (λ y apart. ap not (NamesOne-apart agree test names x y e apart)) ys (IsDistinct-head agree x ys h) in
      let left : filter (λ y. not (test y)) (x ∷ ys) ≡ ys = rw e (all_pass (λ y. not (test y)) ys kept) in
      subst (IsPermutation (filter (λ y. not (test y)) xs)) left (IsPermutation-filter (λ y. not (test y)) xs (x ∷ ys) p)

module _ {T : Type 0} where
  pub filter_swap : (p q : T → Bool) (xs : List T) → filter p (filter q xs) ≡ filter q (filter p xs)
  filter_swap p q [] = refl
  filter_swap p q (x ∷ xs) =
      let rest = filter_swap p q xs in
      split (λ s. filter p (cond (q x) (x ∷ filter q xs) (filter q xs)) ≡ filter q (cond s (x ∷ filter p xs) (filter p xs))) (p x)
      (λ yes. split (λ s. filter p (cond s (x ∷ filter q xs) (filter q xs)) ≡ cond s (x ∷ filter q (filter p xs)) (filter q (filter p xs))) (q x) (λ _. rw yes (ap (λ l. x ∷ l) rest)) (λ _. rest))
      (λ no. split (λ s. filter p (cond s (x ∷ filter q xs) (filter q xs)) ≡ filter q (filter p xs)) (q x) (λ _. rw no rest) (λ _. rest))
