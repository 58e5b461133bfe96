-- What recipes cite: of an insert that was granted, of an item in the place of another, and of two that change places.
use Rattle.std.specs.Prelude.{◌≡◌, ◌==◌, Bool, true, false, List, [], ◌∷◌, filter, length, Contains, IsPermutation, Result, Ok, Err, IfOk, IsOk, OnOk, OnErr, is_ok, is_err}
use Rattle.std.proofs.Common.{rules, refl, sym, subst, arith}
use Rattle.std.proofs.lemmas.List.Elements.{All-contains, All-cons, All-nil}
use Rattle.std.proofs.lemmas.List.Sorted.{Contains-permutation, IsPermutation-cons, IsPermutation-middle, IsPermutation-sym, IsPermutation-trans, length_permutation}
use Rattle.std.specs.List.{AllZip}
use Rattle.iddqd_bi.specs.Bag.{IsCopy}
use Rattle.iddqd_store.proofs.BagLemmas.Sound.{Contains-filter}
use Rattle.iddqd_store.proofs.CallerLemmas.{passes-listed}
use Rattle.iddqd_store.proofs.RankLemmas.Index.{Contains-cons, Contains-here}
use Rattle.iddqd_bi.specs.Map.{Map, bag}
use Rattle.iddqd_bi.specs.Rekeyed.{PutsInPlace}
use Rattle.example_recipes.specs.Replaced.{ReplacesEach}
use Rattle.example_recipes.specs.declared.orders.Order.{Order}

-- what holds of `Ok` holds where the result is `Ok`
pub on_ok : {A E P : Type 0} (r : Result A E) → is_ok r ≡ true → OnOk r P → P
on_ok (Ok x) done p = p
on_ok (Err e) done p = absurd (cc done)

pub on_err : {A E P : Type 0} (r : Result A E) → is_ok r ≡ false → OnErr r P → P
on_err (Ok x) refused p = absurd (cc refused)
on_err (Err e) refused p = p

pub ok_both : {A E : Type 0} {P Q : A → Type 0} (r : Result A E) → is_err r ≡ false → IfOk r P → IfOk r Q → (x : A) × P x × Q x
ok_both (Ok x) done p q = (x, p, q)
ok_both (Err e) done p q = absurd (cc done)

pub is_ok-yes : {A E : Type 0} (r : Result A E) → IsOk r → is_ok r ≡ true
is_ok-yes (Ok x) done = refl
is_ok-yes (Err e) done = absurd (cc done)

module _ {T : Type 0} where
  pub only_member : (x y : T) → Contains (y ∷ []) x → x ≡ y
  only_member x y there = All-contains (λ z. z ≡ y) (y ∷ []) x (All-cons (λ z. z ≡ y) y [] refl (All-nil (λ z. z ≡ y))) there

  -- what a test finds after another item left is what it found before
  pub found_before : (test : T → Bool) (old mid : List T) (x y gone : T) → IsPermutation old (gone ∷ mid) → x ∷ [] ≡ filter test mid → y ∷ [] ≡ filter test old → x ≡ y
  found_before test old mid x y gone left after before =
      let member = passes-listed test mid x (subst (λ l. Contains l x) after (Contains-here x [])) in
      let there : Contains old x = Contains-permutation (gone ∷ mid) old x (IsPermutation-sym old (gone ∷ mid) left) (Contains-cons gone x mid member.0) in
      only_member x y (subst (λ l. Contains l x) (sym before) (Contains-filter test old x member.1 there))

  -- `b` left, `moved` took the place of `a`, and `back` came
  traded : (old mid between new : List T) (a b moved back : T) → IsPermutation old (b ∷ mid) → IsPermutation (a ∷ between) (moved ∷ mid)
      → IsPermutation new (back ∷ between) → IsPermutation (a ∷ b ∷ new) (moved ∷ back ∷ old)
  traded old mid between new a b moved back left put came =
      let one = IsPermutation-cons a _ _ (IsPermutation-cons b _ _ came) in
      let two = IsPermutation-sym _ _ (IsPermutation-middle (b ∷ back ∷ []) a between) in
      let three = IsPermutation-cons b _ _ (IsPermutation-cons back _ _ put) in
      let four = IsPermutation-middle (b ∷ back ∷ []) moved mid in
      let five = IsPermutation-cons moved _ _ (IsPermutation-middle (b ∷ []) back mid) in
      let six = IsPermutation-cons moved _ _ (IsPermutation-cons back _ _ (IsPermutation-sym old (b ∷ mid) left)) in
      IsPermutation-trans _ _ _ one (IsPermutation-trans _ _ _ two (IsPermutation-trans _ _ _ three (IsPermutation-trans _ _ _ four (IsPermutation-trans _ _ _ five six))))

  -- the same where `moved` took the place of the item that the test finds once `b` left, which it found before
  pub traded_by : {S E : Type 0} (test : T → Bool) (old new : List T) (mid between : Map T S) (a b moved back : T) (r : Result T E) → is_err r ≡ false
      → IfOk r (λ x. x ∷ [] ≡ filter test (bag mid)) → IfOk r (λ x. PutsInPlace mid x moved between) →
      a ∷ [] ≡ filter test old → IsPermutation old (b ∷ bag mid) → IsPermutation new (back ∷ bag between) → IsPermutation (a ∷ b ∷ new) (moved ∷ back ∷ old)
  traded_by test old new mid between a b moved back (Ok x) done found put before left came =
      let same : x ≡ a = found_before test old (bag mid) x a b left found before in
      traded old (bag mid) (bag between) new a b moved back left (subst (λ y. IsPermutation (y ∷ bag between) (moved ∷ bag mid)) same put.items) came
  traded_by test old new mid between a b moved back (Err e) done found put before left came = absurd (cc done)

  -- as many items are left where one took the place of another
  pub length-put : {S E : Type 0} (old new : Map T S) (y : T) (r : Result T E) → is_err r ≡ false → IfOk r (λ x. PutsInPlace old x y new) → length (bag new) ≡ length (bag old)
  length-put old new y (Ok x) done put = omega (arith, length_permutation (x ∷ bag new) (y ∷ bag old) put.items)
  length-put old new y (Err e) done put = absurd (cc done)

  all_same : (is_clone : T → T → Type 0) → ((x y : T) → is_clone x y → y ≡ x) → (xs ys : List T) → AllZip is_clone xs ys → ys ≡ xs
  all_same is_clone same [] [] h = refl
  all_same is_clone same [] (y ∷ ys) h = absurd h
  all_same is_clone same (x ∷ xs) [] h = absurd h
  all_same is_clone same (x ∷ xs) (y ∷ ys) h = rw (same x y h.0, all_same is_clone same xs ys h.1) refl

  -- a copy has the same items where a clone equals its item
  pub same_copy : (is_clone : T → T → Type 0) → ((x y : T) → is_clone x y → y ≡ x) → (bag other : List T) → IsCopy is_clone bag other → IsPermutation other bag
  same_copy is_clone same bag other copy = rw (← all_same is_clone same bag copy.0 copy.2) copy.1

-- what one order replaced, and then the others
pub replaces_on : {S E : Type 0} (o : Order) (more : List Order) (old between : Map Order S) (new : List Order) (r : Result Order E)
    → is_err r ≡ false → IfOk r (λ x. x ∷ [] ≡ filter (λ (p : Order). o.number == p.number) (bag old)) → IfOk r (λ x. PutsInPlace old x o between)
    → ReplacesEach more (bag between) new → ReplacesEach (o ∷ more) (bag old) new
replaces_on o more old between new r done found put rest =
    let it = ok_both r done found put in
    let own = (passes-listed (λ (p : Order). o.number == p.number) (bag old) it.0 (subst (λ l. Contains l it.0) it.1 (Contains-here it.0 []))).1 in
    (it.0, bag between, search (rules, own), it.2.items, rest)
