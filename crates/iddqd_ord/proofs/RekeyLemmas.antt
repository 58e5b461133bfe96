-- Items in order, of which one is found by a test.
use Rattle.std.proofs.Common.{◌≡◌, ℕ, suc, ◌+◌, ◌<◌, Bool, true, false, List, [], ◌∷◌, ◌++◌, length, get_or, set, refl, sym, ap, ◌∙◌, arith, inl, inr}
use Rattle.std.specs.Prelude.{filter, not, ◌||◌}
use Rattle.std.specs.List.{insert, list_any, remove}
use Rattle.std.specs.Cmp.{IsTotalOrder}
use Rattle.std.specs.Ordering.{is_lt, is_eq, is_gt, ordering_reverse}
use Rattle.std.specs.declared.cmp.Ordering.{Ordering}
use Rattle.std.specs.declared.cmp.Ordering.TheVariants.{Less, Equal, Greater}
use Rattle.std.proofs.lemmas.Bool.{false≢true, cases_lt}
use Rattle.iddqd_order.specs.Search.{IsSplit}
use Rattle.iddqd_ord.specs.Items.{key_comparison, has_key_of, with_item}
use Rattle.iddqd_ord.specs.Ordered.{IsAscending, IsRising-key}
use Rattle.iddqd_ord.specs.Rekeyed.{PutsAmong}
use Rattle.iddqd_ord.proofs.OrderLemmas.{IsSplit-equal}
use Rattle.iddqd_order.proofs.FilterLemmas.{any-absent, found-split, inserted-split, removed-split, replaced-split}
use Rattle.iddqd_ord.specs.declared.item.IdOrdItem as item

module _ {T : Type 0} (test p : T → Bool) where
  -- a list of which some pass a test has those that pass and those that do not
  pub any_split : (xs : List T) → list_any p xs ≡ list_any p (filter test xs) || list_any p (filter (λ x. not (test x)) xs)
  any_split [] = refl
  any_split (x ∷ xs) = by_tests (test x) (p x) refl refl (any_split xs)
    where
      by_tests : (b c : Bool) → test x ≡ b → p x ≡ c → list_any p xs ≡ list_any p (filter test xs) || list_any p (filter (λ x. not (test x)) xs)
          → list_any p (x ∷ xs) ≡ list_any p (filter test (x ∷ xs)) || list_any p (filter (λ x. not (test x)) (x ∷ xs))
      by_tests true true is e more = rw (is, e) refl
      by_tests true false is e more = rw (is, e) more
      by_tests false true is e more = rw (is, e) (late (list_any p (filter test xs)))
        where
          late : (b : Bool) → true ≡ b || true
          late true = refl
          late false = refl
      by_tests false false is e more = rw (is, e) more

  -- none of the items that do not pass
  pub none_of_others : (xs : List T) → ((j : ℕ) (d : T) → j < length xs → test (get_or xs j d) ≡ false → p (get_or xs j d) ≡ false) → list_any p (filter (λ x. not (test x)) xs) ≡ false
  none_of_others [] none = refl
  none_of_others (x ∷ xs) none = by_test (test x) refl (none_of_others xs (λ j d lt. none (suc j) d (omega arith)))
    where
      by_test : (b : Bool) → test x ≡ b → list_any p (filter (λ x. not (test x)) xs) ≡ false → list_any p (filter (λ x. not (test x)) (x ∷ xs)) ≡ false
      by_test true is more = rw is more
      by_test false is more = rw (is, none 0 x (omega arith) is) more

  -- the only item that passes is one of the list
  pub passing_at : (xs : List T) (f : T) (rest : List T) → filter test xs ≡ f ∷ rest → (i : ℕ) × (i < length xs) × ((d : T) → get_or xs i d ≡ f) × (test f ≡ true)
  passing_at [] f rest is = absurd (cc is)
  passing_at (x ∷ xs) f rest is = by_test (test x) refl (λ e. passing_at xs f rest e)
    where
      by_test : (b : Bool) → test x ≡ b → (filter test xs ≡ f ∷ rest → (i : ℕ) × (i < length xs) × ((d : T) → get_or xs i d ≡ f) × (test f ≡ true))
          → (i : ℕ) × (i < length (x ∷ xs)) × ((d : T) → get_or (x ∷ xs) i d ≡ f) × (test f ≡ true)
      by_test true e more =
          let here : x ∷ filter test xs ≡ f ∷ rest = rw e at is in
          let same : x ≡ f = cc here in
          (0, omega arith, λ d. same, ap test (sym same) ∙ e)
      by_test false e more =
          let later : filter test xs ≡ f ∷ rest = rw e at is in
          let there = more later in
          (suc there.0, omega (arith, there.1), λ d. there.2 d, there.3)

module _ {T K : Type 0} {cmp : K → K → Ordering} (o : IsTotalOrder cmp) (key : T → K) (test : T → Bool) (k : K) where
  -- a key beside an equal one is not equal
  higher_apart : (f y : K) → cmp f k ≡ Equal → cmp f y ≡ Less → is_eq (cmp y k) ≡ false
  higher_apart f y same less =
      let back : cmp k y ≡ Less = sym (o.congr f k y same) ∙ less in
      ap is_eq (o.antisymm y k ∙ ap ordering_reverse back)

  lower_apart : (f y : K) → cmp f k ≡ Equal → cmp y f ≡ Less → is_eq (cmp y k) ≡ false
  lower_apart f y same less =
      let back : cmp f y ≡ Greater = o.antisymm f y ∙ ap ordering_reverse less in
      let behind : cmp k y ≡ Greater = sym (o.congr f k y same) ∙ back in
      ap is_eq (o.antisymm y k ∙ ap ordering_reverse behind)

  -- in a list in order, no other item than the one found has its key
  pub only_one : (xs : List T) (f : T) → IsAscending cmp key xs → filter test xs ≡ f ∷ [] → cmp (key f) k ≡ Equal → list_any (λ y. is_eq (cmp (key y) k)) (filter (λ x. not (test x)) xs) ≡ false
  only_one xs f up one same =
      let found = passing_at test (λ y. is_eq (cmp (key y) k)) xs f [] one in
      let i = found.0 in
      none_of_others test (λ y. is_eq (cmp (key y) k)) xs (λ j d lt fails. elim (cases_lt j i) [
        | inl below ↦ lower_apart (key f) (key (get_or xs j d)) same (rw (found.2 d) at (up j i d below found.1))
        | inr other ↦ elim (cases_lt i j) [
          | inl above ↦ higher_apart (key f) (key (get_or xs j d)) same (rw (found.2 d) at (up i j d above lt))
          | inr past ↦
              let here : i ≡ j = omega (arith, other, past) in
              absurd (false≢true (sym fails ∙ (ap (λ n. test (get_or xs n d)) (sym here) ∙ (ap test (found.2 d) ∙ found.3))))
        ]
      ])

module _ {T : Type 0} (test p : T → Bool) where
  -- an item that fails `p` was found, so others pass it if any does
  pub taken_by_other : (xs : List T) (f : T) → filter test xs ≡ f ∷ [] → p f ≡ false → list_any p xs ≡ list_any p (filter (λ x. not (test x)) xs)
  taken_by_other xs f one fails = any_split test p xs ∙ rw (one, fails) refl

  length_split : (xs : List T) → length (filter test xs) + length (filter (λ x. not (test x)) xs) ≡ length xs
  length_split [] = refl
  length_split (x ∷ xs) = by_test (test x) refl (length_split xs)
    where
      by_test : (b : Bool) → test x ≡ b → length (filter test xs) + length (filter (λ x. not (test x)) xs) ≡ length xs
          → length (filter test (x ∷ xs)) + length (filter (λ x. not (test x)) (x ∷ xs)) ≡ length (x ∷ xs)
      by_test true is more = rw is (omega (arith, more))
      by_test false is more = rw is (omega (arith, more))

  pub fewer_others : (xs : List T) (f : T) → filter test xs ≡ f ∷ [] → length (filter (λ x. not (test x)) xs) < length xs
  fewer_others xs f one = omega (arith, length_split xs, ap length one)

pub is_eq-not : (o : Ordering) → (o ≡ Equal → ⊥) → is_eq o ≡ false
is_eq-not Less other = refl
is_eq-not Equal other = absurd (other refl)
is_eq-not Greater other = refl

-- where one item goes in the place of another with an equal key
module _ {T Key : Type 0} (of : item.Ghosts T Key) (cmp : Key → Key → Ordering) (x : T) where
  -- those with another key are all that has no equal one
  pub with_item-others : (xs : List T) → with_item of cmp (filter (λ y. not (has_key_of of cmp x y)) xs) x ≡ with_item of cmp xs x
  with_item-others xs = λ t. lows xs t ++ x ∷ highs xs t
    where
      lows : (ys : List T) → filter (λ y. is_lt (cmp (of.key y) (of.key x))) (filter (λ y. not (has_key_of of cmp x y)) ys) ≡ filter (λ y. is_lt (cmp (of.key y) (of.key x))) ys
      lows [] = refl
      lows (y ∷ ys) = by_order (cmp (of.key y) (of.key x)) refl (lows ys)
        where
          by_order : (o : Ordering) → cmp (of.key y) (of.key x) ≡ o → filter (λ y. is_lt (cmp (of.key y) (of.key x))) (filter (λ y. not (has_key_of of cmp x y)) ys) ≡ filter (λ y. is_lt (cmp (of.key y) (of.key x))) ys
              → filter (λ y. is_lt (cmp (of.key y) (of.key x))) (filter (λ y. not (has_key_of of cmp x y)) (y ∷ ys)) ≡ filter (λ y. is_lt (cmp (of.key y) (of.key x))) (y ∷ ys)
          by_order Less is more = rw (is, is) (ap (λ (l : List T). y ∷ l) more)
          by_order Equal is more = rw is more
          by_order Greater is more = rw (is, is) more

      highs : (ys : List T) → filter (λ y. is_gt (cmp (of.key y) (of.key x))) (filter (λ y. not (has_key_of of cmp x y)) ys) ≡ filter (λ y. is_gt (cmp (of.key y) (of.key x))) ys
      highs [] = refl
      highs (y ∷ ys) = by_order (cmp (of.key y) (of.key x)) refl (highs ys)
        where
          by_order : (o : Ordering) → cmp (of.key y) (of.key x) ≡ o → filter (λ y. is_gt (cmp (of.key y) (of.key x))) (filter (λ y. not (has_key_of of cmp x y)) ys) ≡ filter (λ y. is_gt (cmp (of.key y) (of.key x))) ys
              → filter (λ y. is_gt (cmp (of.key y) (of.key x))) (filter (λ y. not (has_key_of of cmp x y)) (y ∷ ys)) ≡ filter (λ y. is_gt (cmp (of.key y) (of.key x))) (y ∷ ys)
          by_order Less is more = rw (is, is) more
          by_order Equal is more = rw is more
          by_order Greater is more = rw (is, is) (ap (λ (l : List T). y ∷ l) more)

-- the item that was found has the key of the new one, which takes its place
module _ {T Key : Type 0} (of : item.Ghosts T Key) {cmp : Key → Key → Ordering} (o : IsTotalOrder cmp) where
  alike-split : (xs : List T) (i : ℕ) (x : T) → IsAscending cmp of.key xs → i < length xs → ((d : T) → key_comparison of cmp x (get_or xs i d) ≡ Equal) → IsSplit (key_comparison of cmp x) xs i 1
  alike-split xs i x up lt alike =
      let rises = IsRising-key o of.key (of.key x) in
      IsSplit-equal o of.key xs up (key_comparison of cmp x) rises i lt alike

  pub PutsAmong-replaced : (compare : T → Ordering) (xs : List T) (i : ℕ) (x : T) → IsSplit compare xs i 1 → IsAscending cmp of.key xs → ((d : T) → key_comparison of cmp x (get_or xs i d) ≡ Equal)
      → PutsAmong of cmp (filter (λ y. not (is_eq (compare y))) xs) x (set xs i x)
  PutsAmong-replaced compare xs i x split up alike =
      let same = alike-split xs i x up (omega (arith, split.in_range)) alike in
      let rest : filter (λ y. not (has_key_of of cmp x y)) xs ≡ filter (λ y. not (is_eq (compare y))) xs = sym (removed-split (key_comparison of cmp x) xs i same) ∙ removed-split compare xs i split in
      record {
        lists = replaced-split (key_comparison of cmp x) xs i same x ∙ sym (with_item-others of cmp x xs) ∙ ap (λ (l : List T). with_item of cmp l x) rest;
        free = ap (list_any (has_key_of of cmp x)) (sym rest) ∙ none_of_others (has_key_of of cmp x) (has_key_of of cmp x) xs (λ j d lt fails. fails);
      }

-- the item that was found has another key than the new one
module _ {T Key : Type 0} (of : item.Ghosts T Key) (cmp : Key → Key → Ordering) (compare : T → Ordering) (xs : List T) (i : ℕ) (x : T) (split : IsSplit compare xs i 1) where
  pub others_taken : (f : T) → f ≡ get_or xs i f → is_eq (cmp (of.key f) (of.key x)) ≡ false
      → list_any (has_key_of of cmp x) xs ≡ list_any (has_key_of of cmp x) (filter (λ y. not (is_eq (compare y))) xs)
  others_taken f at fails = taken_by_other (λ y. is_eq (compare y)) (has_key_of of cmp x) xs f (sym (found-split compare xs i split f at)) fails

  pub absent_then : (f : T) → f ≡ get_or xs i f → is_eq (cmp (of.key f) (of.key x)) ≡ false → list_any (has_key_of of cmp x) xs ≡ false → list_any (has_key_of of cmp x) (remove xs i) ≡ false
  absent_then f at fails none = ap (list_any (has_key_of of cmp x)) (removed-split compare xs i split) ∙ sym (others_taken f at fails) ∙ none

  pub PutsAmong-moved : (new : List T) (k : ℕ) → IsSplit (key_comparison of cmp x) (remove xs i) k 0 → new ≡ insert (remove xs i) k x → PutsAmong of cmp (filter (λ y. not (is_eq (compare y))) xs) x new
  PutsAmong-moved new k gap made = record {
    lists = made ∙ inserted-split (key_comparison of cmp x) (remove xs i) k gap x ∙ ap (λ (l : List T). with_item of cmp l x) (removed-split compare xs i split);
    free = ap (list_any (has_key_of of cmp x)) (sym (removed-split compare xs i split)) ∙ any-absent (key_comparison of cmp x) (remove xs i) k gap;
  }
