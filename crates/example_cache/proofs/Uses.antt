-- Pages in the order of their last uses, and those that a new one leaves.
use Rattle.std.specs.Prelude.{◌≡◌, ◌==◌, ◌<◌, ◌≤◌, ◌+◌, ℕ, Bool, true, false, not, List, [], ◌∷◌, ◌++◌, Option, Some, None, All, Contains, IsPermutation, length, filter}
use Rattle.std.specs.Option.{option_to_list}
use Rattle.std.specs.List.{list_any}
use Rattle.std.specs.Ordering.{nat_cmp}
use Rattle.std.specs.declared.cmp.Ordering.{Ordering}
use Rattle.std.proofs.Common.{refl, sym, ap, suc, zero, ◌∙◌, append-nil, arith}
use Rattle.std.proofs.lemmas.Bool.{or_parts}
use Rattle.std.proofs.lemmas.Bool.Decides.{nat_tests}
use Rattle.std.proofs.lemmas.Grind.{common_steps}
use Rattle.std.proofs.lemmas.List.Elements.{All-filter, All-head, All-push, All-tail}
use Rattle.std.proofs.lemmas.List.Filters.{length-filter_both}
use Rattle.std.proofs.lemmas.List.Sorted.{IsPermutation-cons, IsPermutation-middle, IsPermutation-sym, IsPermutation-trans}
use Rattle.iddqd_store.proofs.BagLemmas.Sound.{Contains-filter, only_one}
use Rattle.iddqd_sorted.specs.Items.{by_sort, with_item}
use Rattle.iddqd_sorted.specs.Ordered.{IsAscending}
use Rattle.iddqd_sorted.proofs.Replacing.{IsPermutation-only}
use Rattle.example_cache.specs.Uses.{is_taken, others}
use Rattle.example_cache.specs.declared.pages.Page.{Page}

module _ {T : Type 0} (p : T → Bool) where
  none_left : (xs : List T) → list_any p (filter (λ y. not (p y)) xs) ≡ false
  none_left [] = refl
  none_left (x ∷ xs) = grind (arith, common_steps, none_left xs)

  none_less : (q : T → Bool) (xs : List T) → list_any p xs ≡ false → list_any p (filter q xs) ≡ false
  none_less q [] none = refl
  none_less q (x ∷ xs) none = grind (arith, common_steps, none_less q xs)

  all_left : (xs : List T) → list_any p xs ≡ false → filter (λ y. not (p y)) xs ≡ xs
  all_left [] none = refl
  all_left (x ∷ xs) none = grind (arith, common_steps, all_left xs)

  shorter : (xs : List T) → length (filter (λ y. not (p y)) xs) ≤ length xs
  shorter xs = omega (arith, length-filter_both p (λ y. not (p y)) (λ y. refl) xs)

  fewer_left : (xs : List T) → list_any p xs ≡ true → length (filter (λ y. not (p y)) xs) < length xs
  fewer_left [] some = absurd (cc some)
  fewer_left (x ∷ xs) some = grind (arith, common_steps, fewer_left xs, shorter xs)

  right_part : (xs ys : List T) → list_any p (xs ++ ys) ≡ false → list_any p ys ≡ false
  right_part [] ys none = none
  right_part (x ∷ xs) ys none = right_part xs ys (or_parts (p x) (list_any p (xs ++ ys)) none).1

All-right : {T : Type 0} (P : T → Type 0) (gone : Option T) (xs : List T) → All P (option_to_list gone ++ xs) → All P xs
All-right P None xs all = all
All-right P (Some x) xs all = All-tail P x xs all

-- what was used before a use was used before the next one
pub before_next : (t : ℕ) (xs : List Page) → All (λ (p : Page). p.used < t) xs → All (λ (p : Page). p.used < t + 1) xs
before_next t xs all i d lt = omega (arith, all i d lt)

abbrev same_number : Page → Page → Bool
same_number x p = x.number == p.number

abbrev same_frame : Page → Page → Bool
same_frame x p = x.frame == p.frame

module _ (old : List Page) (x : Page) where
  -- the pages with other numbers
  abbrev mid : List Page
  mid = filter (λ p. not (same_number x p)) old

  -- a page whose number and frame are free leaves all others
  pub all_others : is_taken old x ≡ false → others old x ≡ old
  all_others free = grind (arith, common_steps, all_left (same_number x) old, all_left (same_frame x) old)

  -- and one whose number or frame is taken leaves fewer
  pub fewer_others : is_taken old x ≡ true → length (others old x) < length old
  fewer_others taken =
      grind (arith, common_steps, fewer_left (same_number x) old, shorter (same_frame x) mid, all_left (same_number x) old, fewer_left (same_frame x) old)

  -- no page that is left has the number or the frame
  pub free_now : (gone : Option Page) (new : List Page) → option_to_list gone ++ new ≡ others old x → is_taken new x ≡ false
  free_now gone new left =
      let number = none_less (same_number x) (λ p. not (same_frame x p)) mid (none_left (same_number x) old) in
      let one = right_part (same_number x) (option_to_list gone) new (rw left number) in
      rw one (right_part (same_frame x) (option_to_list gone) new (rw left (none_left (same_frame x) mid)))

  -- each page that is left was used before
  pub before_now : (t : ℕ) (gone : Option Page) (new : List Page) → option_to_list gone ++ new ≡ others old x → All (λ (p : Page). p.used < t) old
      → All (λ (p : Page). p.used < t) new
  before_now t gone new left all =
      let used : All (λ (p : Page). p.used < t) (others old x) = All-filter _ (λ (p : Page). p.used < t) mid (All-filter _ (λ (p : Page). p.used < t) old all) in
      All-right (λ (p : Page). p.used < t) gone new (rw left used)

  -- and with the new page before the next use
  pub before_put : (t : ℕ) (gone : Option Page) (new : List Page) → option_to_list gone ++ new ≡ others old x → All (λ (p : Page). p.used < t) old → x.used ≡ t
      → All (λ (p : Page). p.used < t + 1) (new ++ x ∷ [])
  before_put t gone new left all same = All-push (λ (p : Page). p.used < t + 1) new x (before_next t new (before_now t gone new left all)) (omega (arith, same))

-- pages are in the order of their last uses
abbrev pub by_use : Page → Page → Ordering
by_use = by_sort (λ (p : Page). p.used) nat_cmp (λ (p : Page). p.number) nat_cmp

-- a page that was used last comes last
pub comes_last : (xs : List Page) (x : Page) → All (λ (p : Page). p.used < x.used) xs → with_item by_use xs x ≡ xs ++ x ∷ []
comes_last [] x all = refl
comes_last (y ∷ ys) x all =
    let head = All-head (λ (p : Page). p.used < x.used) y ys all in
    let rest = comes_last ys x (All-tail (λ (p : Page). p.used < x.used) y ys all) in
    grind (arith, nat_tests, common_steps)

-- the first page was used longest ago
pub oldest : (g : Page) (xs : List Page) → IsAscending by_use (g ∷ xs) → All (λ (p : Page). g.used ≤ p.used) (g ∷ xs)
oldest g xs up zero d lt = omega arith
oldest g xs up (suc i) d lt = let less = up 0 (suc i) d (omega arith) lt in grind (arith, nat_tests, common_steps)

-- a page that was found comes last, with another use, and all other pages stay
pub used_again : (test : Page → Bool) (old new : List Page) (p x found : Page) → Contains old p → test p ≡ true → found ∷ [] ≡ filter test old
    → All (λ (q : Page). q.used < x.used) old → new ≡ with_item by_use (filter (λ q. not (test q)) old) x → IsPermutation (p ∷ new) (x ∷ old)
used_again test old new p x found there passes only all is =
    let rest = filter (λ q. not (test q)) old in
    let one : filter test old ≡ p ∷ [] = only_one _ p (omega (arith, ap (λ (l : List Page). length l) only)) (Contains-filter test old p passes there) in
    let last : new ≡ rest ++ x ∷ [] = is ∙ comes_last rest x (All-filter _ (λ (q : Page). q.used < x.used) old all) in
    let moved : IsPermutation (p ∷ new) (x ∷ p ∷ (rest ++ [])) = rw last (IsPermutation-middle (p ∷ rest) x []) in
    IsPermutation-trans _ _ _ (rw (append-nil rest) at moved) (IsPermutation-cons x _ _ (IsPermutation-sym _ _ (IsPermutation-only test old p (sym one))))
