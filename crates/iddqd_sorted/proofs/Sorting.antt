-- The order by sort keys and then by first keys.
use Rattle.std.proofs.Common.{◌≡◌, ℕ, zero, suc, ◌<◌, Bool, true, false, not, cond, ◌&&◌, List, [], ◌∷◌, Some, None, length, get_or, refl, sym, ap, ◌∙◌, arith, inl, inr}
use Rattle.std.specs.Prelude.{Contains, filter, slice_get}
use Rattle.std.specs.Cmp.{IsTotalOrder, alike_right, then_total, on_total}
use Rattle.std.specs.Ordering.{is_lt, is_le, is_eq, is_ge, is_gt, ordering_then}
use Rattle.std.specs.declared.cmp.Ordering.{Ordering}
use Rattle.std.specs.declared.cmp.Ordering.TheVariants.{Less, Equal, Greater}
use Rattle.std.proofs.lemmas.Bool.{false≢true, cases_lt}
use Rattle.std.proofs.lemmas.Cmp.{tied_itself}
use Rattle.iddqd_sorted.specs.Items.{by_sort}
use Rattle.iddqd_sorted.specs.Ordered.{IsAscending, IsRising}
use Rattle.iddqd_order.specs.Search.{IsSplit, IsStartOf, side_of}
use Rattle.iddqd_order.proofs.FilterLemmas.{filter-none}

-- Where `a` compares the lower item with the higher one, `b` the higher one with what is sought, and `c` the lower one: if the
-- higher one is on the near side, so is the lower one.
falls : (past : Bool) (a b c : Ordering) → (a ≡ Greater → ⊥) → (a ≡ Less → b ≡ Less → c ≡ Less) → (a ≡ Less → b ≡ Equal → c ≡ Less) → (a ≡ Equal → c ≡ b)
    → side_of past b ≡ Less → side_of past c ≡ Less
falls past Greater b c not_above less edge same e = absurd (not_above refl)
falls past Equal b c not_above less edge same e = ap (side_of past) (same refl) ∙ e
falls true Less Less c not_above less edge same e = ap (side_of true) (less refl refl)
falls false Less Less c not_above less edge same e = ap (side_of false) (less refl refl)
falls true Less Equal c not_above less edge same e = ap (side_of true) (edge refl refl)
falls false Less Equal c not_above less edge same e = absurd (cc e)
falls true Less Greater c not_above less edge same e = absurd (cc e)
falls false Less Greater c not_above less edge same e = absurd (cc e)

far_else : (past : Bool) (o : Ordering) → (side_of past o ≡ Less → ⊥) → side_of past o ≡ Greater
far_else true Less none = absurd (none refl)
far_else true Equal none = absurd (none refl)
far_else true Greater none = refl
far_else false Less none = absurd (none refl)
far_else false Equal none = refl
far_else false Greater none = refl

then_less : (a b : Ordering) → ordering_then a b ≡ Less → a ≡ Greater → ⊥
then_less Less b e is = cc is
then_less Equal b e is = cc is
then_less Greater b e is = cc e

then_equal : (a b : Ordering) → ordering_then a b ≡ Equal → (a ≡ Equal) × (b ≡ Equal)
then_equal Less b e = absurd (cc e)
then_equal Equal b e = (refl, e)
then_equal Greater b e = absurd (cc e)

module _ {T K Key : Type 0} (sort : T → K) {cmp : K → K → Ordering} (sorts : IsTotalOrder cmp) (key : T → Key) {cmp_key : Key → Key → Ordering} (keys : IsTotalOrder cmp_key) where
  pub total : IsTotalOrder (by_sort sort cmp key cmp_key)
  total = then_total (on_total sort sorts) (on_total key keys)

  -- two items with one place have an equal first key
  pub same_key : (x y : T) → by_sort sort cmp key cmp_key x y ≡ Equal → cmp_key (key x) (key y) ≡ Equal
  same_key x y e = (then_equal (cmp (sort x) (sort y)) (cmp_key (key x) (key y)) e).1

  -- a lower item has no higher sort key
  not_above : (x y : T) → by_sort sort cmp key cmp_key x y ≡ Less → cmp (sort x) (sort y) ≡ Greater → ⊥
  not_above x y e = then_less (cmp (sort x) (sort y)) (cmp_key (key x) (key y)) e

  near : (past : Bool) (k : K) (x y : T) → by_sort sort cmp key cmp_key x y ≡ Less → side_of past (cmp (sort y) k) ≡ Less → side_of past (cmp (sort x) k) ≡ Less
  near past k x y lt e = falls past (cmp (sort x) (sort y)) (cmp (sort y) k) (cmp (sort x) k) (not_above x y lt)
      (λ a b. sorts.trans (sort x) (sort y) k a b)
      (λ a b. sym (alike_right sorts (sort y) k (sort x) b) ∙ a)
      (λ a. sorts.congr (sort x) (sort y) k a) e

  -- the sides of a sort key rise with the order
  pub IsRising-side : (past : Bool) (k : K) → IsRising (by_sort sort cmp key cmp_key) (λ y. side_of past (cmp (sort y) k))
  IsRising-side past k = record {
    less = λ x y lt e. near past k x y lt e;
    greater = λ x y lt e. far_else past (cmp (sort y) k) (λ less. false≢true (ap is_lt (sym e ∙ near past k x y lt less)));
  }

module _ {T : Type 0} {by : T → T → Ordering} (o : IsTotalOrder by) (xs : List T) (x : T) (there : Contains xs x) where
  itself : by (get_or xs there.0 x) x ≡ Equal
  itself = ap (λ y. by y x) there.2 ∙ tied_itself o x

  -- an item of the list is found
  pub no_gap : (p : ℕ) → IsSplit (λ y. by y x) xs p 0 → ⊥
  no_gap p s = elim (cases_lt there.0 p) [
    | inl low ↦ false≢true (ap is_eq (sym (s.below there.0 x low) ∙ itself))
    | inr high ↦ false≢true (ap is_eq (sym (s.above there.0 x (omega (arith, high)) there.1) ∙ itself))
  ]

  -- it is what a search for it found
  pub found_here : (p : ℕ) → IsSplit (λ y. by y x) xs p 1 → get_or xs p x ≡ x
  found_here p s = elim (cases_lt there.0 p) [
    | inl low ↦ absurd (false≢true (ap is_eq (sym (s.below there.0 x low) ∙ itself)))
    | inr high ↦ elim (cases_lt p there.0) [
      | inl above ↦ absurd (false≢true (ap is_eq (sym (s.above there.0 x (omega (arith, above)) there.1) ∙ itself)))
      | inr past ↦ let same : p ≡ there.0 = omega (arith, high, past) in ap (λ (i : ℕ). get_or xs i x) same ∙ there.2
    ]
  ]

read_any : {T : Type 0} (xs : List T) (i : ℕ) (d x : T) → i < length xs → get_or xs i d ≡ get_or xs i x
read_any [] i d x lt = absurd (omega (arith, lt))
read_any (y ∷ ys) zero d x lt = refl
read_any (y ∷ ys) (suc i) d x lt = read_any ys i d x (omega (arith, lt))

pub found_there : {T : Type 0} {by : T → T → Ordering} (o : IsTotalOrder by) (xs : List T) (x : T) → Contains xs x → (p : ℕ) → IsSplit (λ y. by y x) xs p 1 → (d : T) → get_or xs p d ≡ x
found_there o xs x there p s d = read_any xs p d x (omega (arith, s.in_range)) ∙ found_here o xs x there p s

-- If a test fails at the first item, and at each item after one at which it fails, it fails at all.
none_behind : {T : Type 0} {by : T → T → Ordering} (p : T → Bool) → ((x y : T) → by x y ≡ Less → p x ≡ false → p y ≡ false)
    → (xs : List T) (x : T) → slice_get xs 0 ≡ Some x → IsAscending by xs → p x ≡ false → filter p xs ≡ []
none_behind p on [] x first up e = refl
none_behind p on (y ∷ ys) x first up e =
    let same : y ≡ x = cc first in
    let here : p y ≡ false = ap p same ∙ e in
    filter-none p (y ∷ ys) (λ j d lt. elim (cases_lt 0 j) [
      | inl behind ↦ on y (get_or (y ∷ ys) j d) (up 0 j d behind lt) here
      | inr is ↦ let zero : 0 ≡ j = omega (arith, is) in ap (λ (i : ℕ). p (get_or (y ∷ ys) i d)) (sym zero) ∙ here
    ])

far_not_le : (o : Ordering) → side_of true o ≡ Greater → is_le o ≡ false
far_not_le Less e = absurd (cc e)
far_not_le Equal e = absurd (cc e)
far_not_le Greater e = refl

not_le_far : (o : Ordering) → is_le o ≡ false → side_of true o ≡ Greater
not_le_far Less e = absurd (false≢true (sym e))
not_le_far Equal e = absurd (false≢true (sym e))
not_le_far Greater e = refl

far_not_lt : (o : Ordering) → side_of false o ≡ Greater → is_lt o ≡ false
far_not_lt Less e = absurd (cc e)
far_not_lt Equal e = refl
far_not_lt Greater e = refl

not_lt_far : (o : Ordering) → is_lt o ≡ false → side_of false o ≡ Greater
not_lt_far Less e = absurd (false≢true (sym e))
not_lt_far Equal e = refl
not_lt_far Greater e = refl

module _ {T K Key : Type 0} (sort : T → K) {cmp : K → K → Ordering} (sorts : IsTotalOrder cmp) (key : T → Key) {cmp_key : Key → Key → Ordering} (keys : IsTotalOrder cmp_key) (k : K) where
  -- if the first item is higher than a sort key, no item is at most that
  pub none_due : (xs : List T) (x : T) → slice_get xs 0 ≡ Some x → IsAscending (by_sort sort cmp key cmp_key) xs → is_le (cmp (sort x) k) ≡ false
      → filter (λ y. is_le (cmp (sort y) k)) xs ≡ []
  none_due = none_behind (λ y. is_le (cmp (sort y) k)) (λ x y lt e. far_not_le (cmp (sort y) k) ((IsRising-side sort sorts key keys true k).greater x y lt (not_le_far (cmp (sort x) k) e)))

  -- if the first item is not lower than a sort key, none is
  pub none_lower : (xs : List T) (x : T) → slice_get xs 0 ≡ Some x → IsAscending (by_sort sort cmp key cmp_key) xs → is_lt (cmp (sort x) k) ≡ false
      → filter (λ y. is_lt (cmp (sort y) k)) xs ≡ []
  none_lower = none_behind (λ y. is_lt (cmp (sort y) k)) (λ x y lt e. far_not_lt (cmp (sort y) k) ((IsRising-side sort sorts key keys false k).greater x y lt (not_lt_far (cmp (sort x) k) e)))

pub nothing_first : {T : Type 0} (xs : List T) → slice_get xs 0 ≡ None → xs ≡ []
nothing_first [] none = refl
nothing_first (x ∷ xs) none = absurd (cc none)

-- tests that say the same
pub filter-same : {T : Type 0} (p q : T → Bool) → ((x : T) → p x ≡ q x) → (xs : List T) → filter p xs ≡ filter q xs
filter-same p q same [] = refl
filter-same {T} p q same (x ∷ xs) = rw (same x) (by_test (q x) (filter-same p q same xs))
  where
    by_test : (b : Bool) → filter p xs ≡ filter q xs → cond b (x ∷ filter p xs) (filter p xs) ≡ cond b (x ∷ filter q xs) (filter q xs)
    by_test true more = ap (λ (ys : List T). x ∷ ys) more
    by_test false more = more

pub IsStartOf-same : {T : Type 0} (p q : T → Bool) → ((x : T) → p x ≡ q x) → (xs : List T) (i : ℕ) → IsStartOf p xs i → IsStartOf q xs i
IsStartOf-same p q same xs i cut = record {
  in_range = cut.in_range;
  before = λ j d lt. sym (same (get_or xs j d)) ∙ cut.before j d lt;
  after = λ j d le lt. sym (same (get_or xs j d)) ∙ cut.after j d le lt;
}

pub not_le : (o : Ordering) → is_gt o ≡ not (is_le o)
not_le Less = refl
not_le Equal = refl
not_le Greater = refl

pub both_eq : (o : Ordering) → is_ge o && is_le o ≡ is_eq o
both_eq Less = refl
both_eq Equal = refl
both_eq Greater = refl

-- if no item is lower, all are not lower
pub all_at_least : {T : Type 0} (at : T → Ordering) (xs : List T) → filter (λ x. is_lt (at x)) xs ≡ [] → filter (λ x. is_ge (at x)) xs ≡ xs
all_at_least at [] none = refl
all_at_least {T} at (x ∷ xs) none = by_order (at x) refl (all_at_least at xs)
  where
    by_order : (o : Ordering) → at x ≡ o → (filter (λ y. is_lt (at y)) xs ≡ [] → filter (λ y. is_ge (at y)) xs ≡ xs) → filter (λ y. is_ge (at y)) (x ∷ xs) ≡ x ∷ xs
    by_order Less is more = absurd (cc (rw is at none))
    by_order Equal is more = rw is (ap (λ (q : List T). x ∷ q) (more (rw is at none)))
    by_order Greater is more = rw is (ap (λ (q : List T). x ∷ q) (more (rw is at none)))
