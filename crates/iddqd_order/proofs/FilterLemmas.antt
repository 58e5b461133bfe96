-- Filters of a list that is split at an index.
use Rattle.std.proofs.Common.{◌≡◌, ℕ, zero, suc, ◌+◌, ◌-◌, ◌<◌, ◌≤◌, Bool, true, false, not, ◌&&◌, List, [], ◌∷◌, ◌++◌, length, get_or, set, take, drop, refl, sym, ap, ◌∙◌, arith, inl, inr}
use Rattle.std.specs.Prelude.{filter, slice_range, Result, Ok, Err, IsErr, OnOk, OnErr}
use Rattle.std.specs.List.{insert, remove, list_any}
use Rattle.std.specs.Ordering.{is_lt, is_eq, is_gt}
use Rattle.std.specs.declared.cmp.Ordering.{Ordering}
use Rattle.std.proofs.lemmas.Bool.{cases_lt, false≢true}
use Rattle.std.proofs.lemmas.List.{length-drop, get_or-drop}
use Rattle.iddqd_order.specs.Search.{IsSplit, IsStartOf}

module _ {T : Type 0} (p : T → Bool) where
  here_true : (x : T) (xs : List T) → p x ≡ true → filter p (x ∷ xs) ≡ x ∷ filter p xs
  here_true x xs passes = rw passes refl

  here_false : (x : T) (xs : List T) → p x ≡ false → filter p (x ∷ xs) ≡ filter p xs
  here_false x xs fails = rw fails refl

  -- none passes
  pub filter-none : (xs : List T) → ((j : ℕ) (d : T) → j < length xs → p (get_or xs j d) ≡ false) → filter p xs ≡ []
  filter-none [] fails = refl
  filter-none (x ∷ xs) fails = here_false x xs (fails 0 x (omega arith)) ∙ filter-none xs (λ j d lt. fails (suc j) d (omega arith))

  -- those before an index pass, and fails others
  pub filter-take : (xs : List T) (i : ℕ) → i ≤ length xs → ((j : ℕ) (d : T) → j < i → p (get_or xs j d) ≡ true) → ((j : ℕ) (d : T) → i ≤ j → j < length xs → p (get_or xs j d) ≡ false) → filter p xs ≡ take i xs
  filter-take xs zero le passes fails = filter-none xs (λ j d lt. fails j d (omega arith) lt)
  filter-take [] (suc i) le passes fails = absurd (omega arith)
  filter-take (x ∷ xs) (suc i) le passes fails =
      here_true x xs (passes 0 x (omega arith))
      ∙ ap (λ (q : List T). x ∷ q) (filter-take xs i (omega arith) (λ j d lt. passes (suc j) d (omega arith)) (λ j d above lt. fails (suc j) d (omega arith) (omega arith)))

  -- all pass
  pub filter-all : (xs : List T) → ((j : ℕ) (d : T) → j < length xs → p (get_or xs j d) ≡ true) → filter p xs ≡ xs
  filter-all [] passes = refl
  filter-all (x ∷ xs) passes = here_true x xs (passes 0 x (omega arith)) ∙ ap (λ (q : List T). x ∷ q) (filter-all xs (λ j d lt. passes (suc j) d (omega arith)))

  -- those from an index on pass, and fails others
  pub filter-drop : (xs : List T) (i : ℕ) → i ≤ length xs → ((j : ℕ) (d : T) → j < i → p (get_or xs j d) ≡ false) → ((j : ℕ) (d : T) → i ≤ j → j < length xs → p (get_or xs j d) ≡ true) → filter p xs ≡ drop i xs
  filter-drop xs zero le fails passes = filter-all xs (λ j d lt. passes j d (omega arith) lt)
  filter-drop [] (suc i) le fails passes = absurd (omega arith)
  filter-drop (x ∷ xs) (suc i) le fails passes =
      here_false x xs (fails 0 x (omega arith))
      ∙ filter-drop xs i (omega arith) (λ j d lt. fails (suc j) d (omega arith)) (λ j d above lt. passes (suc j) d (omega arith) (omega arith))

  -- one passes
  pub filter-one : (xs : List T) (i : ℕ) (x : T) → i < length xs → x ≡ get_or xs i x → p (get_or xs i x) ≡ true → ((j : ℕ) (d : T) → j < i → p (get_or xs j d) ≡ false) → ((j : ℕ) (d : T) → i < j → j < length xs → p (get_or xs j d) ≡ false) → x ∷ [] ≡ filter p xs
  filter-one [] i x lt is passes before after = absurd (omega arith)
  filter-one (y ∷ xs) zero x lt is passes before after =
      ap (λ (z : T). z ∷ []) is
      ∙ ap (λ (q : List T). y ∷ q) (sym (filter-none xs (λ j d less. after (suc j) d (omega arith) (omega arith))))
      ∙ sym (here_true y xs passes)
  filter-one (y ∷ xs) (suc i) x lt is passes before after =
      filter-one xs i x (omega arith) is passes (λ j d less. before (suc j) d (omega arith)) (λ j d above less. after (suc j) d (omega arith) (omega arith))
      ∙ sym (here_false y xs (before 0 y (omega arith)))

  -- all but one pass
  pub filter-but : (xs : List T) (i : ℕ) → i < length xs → ((d : T) → p (get_or xs i d) ≡ false) → ((j : ℕ) (d : T) → j < i → p (get_or xs j d) ≡ true) → ((j : ℕ) (d : T) → i < j → j < length xs → p (get_or xs j d) ≡ true) → remove xs i ≡ filter p xs
  filter-but [] i lt fails before after = absurd (omega arith)
  filter-but (x ∷ xs) zero lt fails before after =
      sym (filter-all xs (λ j d less. after (suc j) d (omega arith) (omega arith))) ∙ sym (here_false x xs (fails x))
  filter-but (x ∷ xs) (suc i) lt fails before after =
      ap (λ (q : List T). x ∷ q) (filter-but xs i (omega arith) (λ d. fails d) (λ j d less. before (suc j) d (omega arith)) (λ j d above less. after (suc j) d (omega arith) (omega arith)))
      ∙ sym (here_true x xs (before 0 x (omega arith)))

  -- none passes if the list of those that pass is empty
  pub any-none : (xs : List T) → filter p xs ≡ [] → list_any p xs ≡ false
  any-none [] none = refl
  any-none (x ∷ xs) none = by_test (p x) refl (any-none xs)
    where
      by_test : (b : Bool) → p x ≡ b → (filter p xs ≡ [] → list_any p xs ≡ false) → list_any p (x ∷ xs) ≡ false
      by_test true passes more = absurd (cc (sym (here_true x xs passes) ∙ none))
      by_test false fails more = rw fails (more (sym (here_false x xs fails) ∙ none))

  -- the list of those that pass is not empty
  pub any_passes : (xs : List T) (x : T) → x ∷ [] ≡ filter p xs → list_any p xs ≡ true
  any_passes [] x one = absurd (cc one)
  any_passes (y ∷ xs) x one = by_test (p y) refl (any_passes xs x)
    where
      by_test : (b : Bool) → p y ≡ b → (x ∷ [] ≡ filter p xs → list_any p xs ≡ true) → list_any p (y ∷ xs) ≡ true
      by_test true is more = rw is refl
      by_test false is more = rw is (more (one ∙ here_false y xs is))

  -- one passes
  pub any-at : (xs : List T) (i : ℕ) → i < length xs → ((d : T) → p (get_or xs i d) ≡ true) → list_any p xs ≡ true
  any-at [] i lt passes = absurd (omega arith)
  any-at (x ∷ xs) zero lt passes = rw (passes x) refl
  any-at (x ∷ xs) (suc i) lt passes = by_test (p x) refl (any-at xs i (omega arith) passes)
    where
      by_test : (b : Bool) → p x ≡ b → list_any p xs ≡ true → list_any p (x ∷ xs) ≡ true
      by_test true here more = rw here refl
      by_test false here more = rw here more

pub err_is_not_ok : {A E : Type 0} (P : Type 0) (r : Result A E) → IsErr r → OnOk r P
err_is_not_ok P (Ok x) is = absurd (false≢true is)
err_is_not_ok P (Err e) is = tt

pub err_for_all : {A E P : Type 0} (r : Result A E) → P → OnErr r P
err_for_all (Ok x) p = tt
err_for_all (Err e) p = p

zero_is : (i : ℕ) → i + 0 ≡ i
zero_is i = omega arith

one_is : (i : ℕ) → i + 1 ≡ suc i
one_is i = omega arith

pub insert-parts : {T : Type 0} (xs : List T) (i : ℕ) (x : T) → i ≤ length xs → insert xs i x ≡ take i xs ++ x ∷ drop i xs
insert-parts xs zero x le = refl
insert-parts [] (suc i) x le = absurd (omega arith)
insert-parts {T} (y ∷ xs) (suc i) x le = ap (λ (q : List T). y ∷ q) (insert-parts xs i x (omega arith))

pub set-parts : {T : Type 0} (xs : List T) (i : ℕ) (x : T) → i < length xs → set xs i x ≡ take i xs ++ x ∷ drop (suc i) xs
set-parts [] i x lt = absurd (omega arith)
set-parts (y ∷ xs) zero x lt = refl
set-parts {T} (y ∷ xs) (suc i) x lt = ap (λ (q : List T). y ∷ q) (set-parts xs i x (omega arith))

module _ {T : Type 0} (compare : T → Ordering) (xs : List T) (i n : ℕ) (s : IsSplit compare xs i n) where
  pub lower-split : filter (λ y. is_lt (compare y)) xs ≡ take i xs
  lower-split = filter-take (λ y. is_lt (compare y)) xs i (omega (arith, s.in_range)) (λ j d lt. ap is_lt (s.below j d lt)) (λ j d le lt. elim (cases_lt j (i + n)) [
    | inl at ↦ ap is_lt (s.equal j d le at)
    | inr past ↦ ap is_lt (s.above j d (omega arith) lt)
  ])

  pub higher-split : filter (λ y. is_gt (compare y)) xs ≡ drop (i + n) xs
  higher-split = filter-drop (λ y. is_gt (compare y)) xs (i + n) s.in_range (λ j d lt. elim (cases_lt j i) [
    | inl low ↦ ap is_gt (s.below j d low)
    | inr at ↦ ap is_gt (s.equal j d (omega arith) lt)
  ]) (λ j d le lt. ap is_gt (s.above j d le lt))

module _ {T : Type 0} (compare : T → Ordering) (xs : List T) (i : ℕ) where
  -- what is sought is absent
  pub absent-split : IsSplit compare xs i 0 → filter (λ y. is_eq (compare y)) xs ≡ []
  absent-split s = filter-none (λ y. is_eq (compare y)) xs (λ j d lt. elim (cases_lt j i) [
    | inl low ↦ ap is_eq (s.below j d low)
    | inr at ↦ ap is_eq (s.above j d (omega arith) lt)
  ])

  pub kept-split : IsSplit compare xs i 0 → xs ≡ filter (λ y. not (is_eq (compare y))) xs
  kept-split s = sym (filter-all (λ y. not (is_eq (compare y))) xs (λ j d lt. elim (cases_lt j i) [
    | inl low ↦ ap (λ o. not (is_eq o)) (s.below j d low)
    | inr at ↦ ap (λ o. not (is_eq o)) (s.above j d (omega arith) lt)
  ]))

  pub inserted-split : IsSplit compare xs i 0 → (x : T) → insert xs i x ≡ filter (λ y. is_lt (compare y)) xs ++ x ∷ filter (λ y. is_gt (compare y)) xs
  inserted-split s x = insert-parts xs i x (omega (arith, s.in_range)) ∙ (λ t. sym (lower-split compare xs i 0 s) t ++ x ∷ sym (higher-split compare xs i 0 s ∙ ap (λ (n : ℕ). drop n xs) (zero_is i)) t)

  -- what is sought stands at `i`
  pub found-split : IsSplit compare xs i 1 → (x : T) → x ≡ get_or xs i x → x ∷ [] ≡ filter (λ y. is_eq (compare y)) xs
  found-split s x is = filter-one (λ y. is_eq (compare y)) xs i x (omega (arith, s.in_range)) is (ap is_eq (s.equal i x (omega arith) (omega arith)))
      (λ j d lt. ap is_eq (s.below j d lt)) (λ j d above lt. ap is_eq (s.above j d (omega arith) lt))

  pub removed-split : IsSplit compare xs i 1 → remove xs i ≡ filter (λ y. not (is_eq (compare y))) xs
  removed-split s = filter-but (λ y. not (is_eq (compare y))) xs i (omega (arith, s.in_range)) (λ d. ap (λ o. not (is_eq o)) (s.equal i d (omega arith) (omega arith)))
      (λ j d lt. ap (λ o. not (is_eq o)) (s.below j d lt)) (λ j d above lt. ap (λ o. not (is_eq o)) (s.above j d (omega arith) lt))

  pub replaced-split : IsSplit compare xs i 1 → (x : T) → set xs i x ≡ filter (λ y. is_lt (compare y)) xs ++ x ∷ filter (λ y. is_gt (compare y)) xs
  replaced-split s x = set-parts xs i x (omega (arith, s.in_range)) ∙ (λ t. sym (lower-split compare xs i 1 s) t ++ x ∷ sym (higher-split compare xs i 1 s ∙ ap (λ (n : ℕ). drop n xs) (one_is i)) t)

  pub any-found : IsSplit compare xs i 1 → list_any (λ y. is_eq (compare y)) xs ≡ true
  any-found s = any-at (λ y. is_eq (compare y)) xs i (omega (arith, s.in_range)) (λ d. ap is_eq (s.equal i d (omega arith) (omega arith)))

  pub any-absent : IsSplit compare xs i 0 → list_any (λ y. is_eq (compare y)) xs ≡ false
  any-absent s = any-none (λ y. is_eq (compare y)) xs (absent-split s)

filter-and : {T : Type 0} (p q : T → Bool) (xs : List T) → filter (λ x. p x && q x) xs ≡ filter q (filter p xs)
filter-and p q [] = refl
filter-and {T} p q (x ∷ xs) = by_test (p x) refl (q x) refl (filter-and p q xs)
  where
    by_test : (b : Bool) → p x ≡ b → (c : Bool) → q x ≡ c → filter (λ y. p y && q y) xs ≡ filter q (filter p xs) → filter (λ y. p y && q y) (x ∷ xs) ≡ filter q (filter p (x ∷ xs))
    by_test true here true there more = rw (here, there) (ap (λ (ys : List T). x ∷ ys) more)
    by_test true here false there more = rw (here, there) more
    by_test false here c there more = rw here more

not_false : (b : Bool) → not b ≡ false → b ≡ true
not_false true e = refl
not_false false e = sym e

not_true : (b : Bool) → not b ≡ true → b ≡ false
not_true true e = sym e
not_true false e = refl

-- the items from a lower cut up to an upper cut
pub filter-between : {T : Type 0} (low high : T → Bool) (xs : List T) (i j : ℕ) → IsStartOf low xs i → IsStartOf (λ x. not (high x)) xs j → filter (λ x. low x && high x) xs ≡ slice_range xs i j
filter-between {T} low high xs i j from to =
    let left = length-drop i xs in
    let up : filter high (drop i xs) ≡ take (j - i) (drop i xs) = filter-take high (drop i xs) (j - i) (omega (arith, left, to.in_range))
    (λ k d lt. ap high (get_or-drop i xs k d) ∙ not_false (high (get_or xs (i + k) d)) (to.before (i + k) d (omega arith)))
    (λ k d le lt. ap high (get_or-drop i xs k d) ∙ not_true (high (get_or xs (i + k) d)) (to.after (i + k) d (omega arith) (omega (arith, left)))) in
    filter-and low high xs ∙ ap (filter high) (filter-drop low xs i from.in_range from.before from.after) ∙ up

pub remove-first : {T : Type 0} (xs : List T) (i : ℕ) (x : T) → i < length xs → i ≡ 0 → x ≡ get_or xs i x → xs ≡ x ∷ remove xs i
remove-first [] i x lt first is = absurd (omega arith)
remove-first {T} (y ∷ xs) zero x lt first is = ap (λ (z : T). z ∷ xs) (sym is)
remove-first (y ∷ xs) (suc i) x lt first is = absurd (omega (arith, first))

pub remove-last : {T : Type 0} (xs : List T) (i : ℕ) (x : T) → i < length xs → i + 1 ≡ length xs → x ≡ get_or xs i x → xs ≡ remove xs i ++ x ∷ []
remove-last [] i x lt last is = absurd (omega arith)
remove-last {T} (y ∷ []) zero x lt last is = ap (λ (z : T). z ∷ []) (sym is)
remove-last (y ∷ z ∷ xs) zero x lt last is = absurd (omega (arith, last))
remove-last {T} (y ∷ xs) (suc i) x lt last is = ap (λ (q : List T). y ∷ q) (remove-last xs i x (omega arith) (omega (arith, last)) is)
