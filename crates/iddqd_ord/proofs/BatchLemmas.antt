-- A list of items in the order given, and their numbers in the order of their keys.
use Rattle.std.proofs.Common.{◌≡◌, ℕ, zero, suc, ◌+◌, ◌<◌, ◌≤◌, true, false, Bool, List, [], ◌∷◌, ◌++◌, Some, length, get_or, refl, sym, ap, subst, ◌∙◌, arith}
use Rattle.std.specs.Prelude.{map, slice_get, IsPermutation}
use Rattle.std.specs.List.{insert, list_any}
use Rattle.std.specs.Ordering.{is_eq}
use Rattle.std.specs.Cmp.{IsTotalOrder}
use Rattle.std.specs.declared.cmp.Ordering.{Ordering}
use Rattle.std.proofs.lemmas.Bool.{false≢true}
use Rattle.std.proofs.lemmas.List.{length-append, get_or_append_left, append-nil}
use Rattle.std.proofs.lemmas.List.Sorted.{IsPermutation-refl, IsPermutation-sym, IsPermutation-trans, length_permutation, list_any-IsPermutation}
use Rattle.std.proofs.lemmas.Option.{slice_get-get_or, get_or_from_slice_get, slice_get_within}
use Rattle.iddqd_order.specs.Search.{IsSearchable, IsSplit, IsLastEqual, order_at}
use Rattle.iddqd_ord.specs.Batches.{AreFree, IsOrderOf}
use Rattle.iddqd_ord.specs.Items.{OrdMap, items, key_comparison, has_key_of, with_item, GrowsUnless}
use Rattle.iddqd_ord.specs.Ordered.{IsAscending}
use Rattle.iddqd_ord.specs.Extensions.{with_items}
use Rattle.iddqd_ord.specs.declared.item.IdOrdItem as item
use Rattle.iddqd_ord.proofs.InsertLemmas.{IsPermutation-added}
use Rattle.iddqd_ord.proofs.ExtendLemmas.{fold-push}
use Rattle.iddqd_ord.proofs.LentLemmas.{item_there}
use Rattle.iddqd_ord.proofs.MergeLemmas.{IsPermutation-moved, none_before}
use Rattle.iddqd_ord.proofs.OrderLemmas.{ascending-insert}
use Rattle.iddqd_order.proofs.FilterLemmas.{any-at, any-absent, inserted-split}

module _ {T : Type 0} where
  -- what a number names stays if the list grows
  slice_get-more : (xs zs : List T) (n : ℕ) (x : T) → slice_get xs n ≡ Some x → slice_get (xs ++ zs) n ≡ Some x
  slice_get-more xs zs n x at =
      let lt = slice_get_within xs n x at in
      slice_get-get_or (xs ++ zs) n x (omega (arith, lt, length-append xs zs)) ∙ ap Some (get_or_append_left xs zs x n lt ∙ get_or_from_slice_get xs n x x at)

  slice_get-last : (xs : List T) (x : T) → slice_get (xs ++ x ∷ []) (length xs) ≡ Some x
  slice_get-last [] x = refl
  slice_get-last (y ∷ ys) x = slice_get-last ys x

  picks-more : (xs zs : List T) (ns : List ℕ) (ys : List T) → map (slice_get xs) ns ≡ map Some ys → map (slice_get (xs ++ zs)) ns ≡ map Some ys
  picks-more xs zs [] [] is = refl
  picks-more xs zs [] (y ∷ ys) is = absurd (cc is)
  picks-more xs zs (n ∷ ns) [] is = absurd (cc is)
  picks-more xs zs (n ∷ ns) (y ∷ ys) is =
      let head : slice_get xs n ≡ Some y = cc is in
      let tail : map (slice_get xs) ns ≡ map Some ys = cc is in
      λ t. slice_get-more xs zs n y head t ∷ picks-more xs zs ns ys tail t

  picked-length : (xs : List T) (ns : List ℕ) (ys : List T) → map (slice_get xs) ns ≡ map Some ys → length ns ≡ length ys
  picked-length xs [] [] is = refl
  picked-length xs [] (y ∷ ys) is = absurd (cc is)
  picked-length xs (n ∷ ns) [] is = absurd (cc is)
  picked-length xs (n ∷ ns) (y ∷ ys) is =
      let tail : map (slice_get xs) ns ≡ map Some ys = cc is in
      ap suc (picked-length xs ns ys tail)

  -- the number at an index names the item at that index of the other list
  picked : (xs : List T) (ns : List ℕ) (ys : List T) → map (slice_get xs) ns ≡ map Some ys → (i d : ℕ) (e : T) → i < length ns → slice_get xs (get_or ns i d) ≡ Some (get_or ys i e)
  picked xs [] ys is i d e lt = absurd (omega arith)
  picked xs (n ∷ ns) [] is i d e lt = absurd (cc is)
  picked xs (n ∷ ns) (y ∷ ys) is zero d e lt = cc is
  picked xs (n ∷ ns) (y ∷ ys) is (suc i) d e lt =
      let tail : map (slice_get xs) ns ≡ map Some ys = cc is in
      picked xs ns ys tail i d e (omega arith)

map-insert : {A B : Type 0} (f : A → B) (xs : List A) (i : ℕ) (x : A) → i ≤ length xs → map f (insert xs i x) ≡ insert (map f xs) i (f x)
map-insert f xs zero x le = refl
map-insert f [] (suc i) x le = absurd (omega arith)
map-insert {B = B} f (y ∷ xs) (suc i) x le = ap (λ (l : List B). f y ∷ l) (map-insert f xs i x (omega arith))

-- a search among the numbers is one among the items that they name
module _ {T : Type 0} (compare : T → Ordering) (xs : List T) (ns : List ℕ) (ys : List T) (is : map (slice_get xs) ns ≡ map Some ys) where
  at : (i d : ℕ) (e : T) → i < length ns → order_at compare (slice_get xs (get_or ns i d)) ≡ compare (get_or ys i e)
  at i d e lt = ap (order_at compare) (picked xs ns ys is i d e lt)

  len : length ns ≡ length ys
  len = picked-length xs ns ys is

  pub all_asked : (i d : ℕ) → i < length ns → get_or ns i d < length xs
  all_asked i d lt =
      let e = (item_there ys i (omega (arith, len, lt))).0 in
      slice_get_within xs (get_or ns i d) (get_or ys i e) (picked xs ns ys is i d e lt)

  pub searchable_picked : IsSearchable compare ys → IsSearchable (λ n. order_at compare (slice_get xs n)) ns
  searchable_picked s = record {
    less = λ i j d le lt less.
        (let e = (item_there ys j (omega (arith, len, lt))).0 in
        at i d e (omega (arith, le, lt)) ∙ s.less i j e le (omega (arith, len, lt)) (sym (at j d e lt) ∙ less));
    greater = λ i j d le lt more.
        (let e = (item_there ys j (omega (arith, len, lt))).0 in
        at j d e lt ∙ s.greater i j e le (omega (arith, len, lt)) (sym (at i d e (omega (arith, le, lt))) ∙ more));
  }

  pub split_picked : (i m : ℕ) → IsSplit (λ n. order_at compare (slice_get xs n)) ns i m → IsSplit compare ys i m
  split_picked i m s = record {
    in_range = omega (arith, len, s.in_range);
    below = λ k e lt. sym (at k 0 e (omega (arith, s.in_range, lt))) ∙ s.below k 0 lt;
    equal = λ k e le lt. sym (at k 0 e (omega (arith, s.in_range, lt))) ∙ s.equal k 0 le lt;
    above = λ k e le lt. sym (at k 0 e (omega (arith, len, lt))) ∙ s.above k 0 le (omega (arith, len, lt));
  }

  pub found_picked : (i : ℕ) → IsLastEqual (λ n. order_at compare (slice_get xs n)) ns i → list_any (λ y. is_eq (compare y)) ys ≡ true
  found_picked i found =
      let s = split_picked found.first (found.more + 1) found.split in
      any-at (λ y. is_eq (compare y)) ys found.first (omega (arith, s.in_range)) (λ e. ap is_eq (s.equal found.first e (omega arith) (omega arith)))

module _ {T Key : Type 0} (of : item.Ghosts T Key) (cmp : Key → Key → Ordering) where
  pub IsOrderOf-none : IsOrderOf of cmp [] []
  IsOrderOf-none = record { picks = refl; ascending = λ i j d lt in_range. absurd (omega (arith, in_range)); same = IsPermutation-refl [] }

  pub IsOrderOf-length : (list : List T) (numbers : List ℕ) → IsOrderOf of cmp list numbers → length numbers ≡ length list
  IsOrderOf-length list numbers index = picked-length list numbers (with_items of cmp [] list) index.picks ∙ sym (length_permutation _ _ index.same)

  -- one more item was gathered
  pub IsOrderOf-push : IsTotalOrder cmp → (list : List T) (numbers : List ℕ) (x : T) (i : ℕ) → IsOrderOf of cmp list numbers → IsSplit (key_comparison of cmp x) (with_items of cmp [] list) i 0
      → IsOrderOf of cmp (list ++ x ∷ []) (insert numbers i (length list))
  IsOrderOf-push o list numbers x i index gap =
      let sorted = with_items of cmp [] list in
      let made : with_items of cmp [] (list ++ x ∷ []) ≡ with_item of cmp sorted x = fold-push (with_item of cmp) [] list x in
      let inserted : with_items of cmp [] (list ++ x ∷ []) ≡ insert sorted i x = made ∙ sym (inserted-split (key_comparison of cmp x) sorted i gap x) in
      let len = picked-length list numbers sorted index.picks in
      record {
        picks = map-insert (slice_get (list ++ x ∷ [])) numbers i (length list) (omega (arith, len, gap.in_range))
            ∙ (λ t. insert (picks-more list (x ∷ []) numbers sorted index.picks t) i (slice_get-last list x t))
            ∙ sym (map-insert Some sorted i x (omega (arith, gap.in_range))) ∙ ap (map Some) (sym inserted);
        ascending = subst (λ (l : List T). IsAscending cmp of.key l) (sym inserted) (ascending-insert o of.key sorted i x gap index.ascending);
        same = IsPermutation-added of cmp x sorted (with_items of cmp [] (list ++ x ∷ [])) list index.same (any-absent _ _ _ gap) made;
      }

  pub AreFree-push : (held xs : List T) (x : T) → AreFree of cmp held xs → list_any (has_key_of of cmp x) (with_items of cmp held xs) ≡ false → AreFree of cmp held (xs ++ x ∷ [])
  AreFree-push held [] x free none = (none, tt)
  AreFree-push held (y ∷ ys) x free none = (free.0, AreFree-push (with_item of cmp held y) ys x free.1 none)

  -- items that are put where their keys are free are all there
  pub IsPermutation-with_items : (held xs : List T) → AreFree of cmp held xs → IsPermutation (with_items of cmp held xs) (held ++ xs)
  IsPermutation-with_items held [] free = subst (λ (l : List T). IsPermutation held l) (sym (append-nil held)) (IsPermutation-refl held)
  IsPermutation-with_items held (y ∷ ys) free =
      let moved = IsPermutation-moved of cmp y ys held (with_item of cmp held y) (held ++ y ∷ ys) (IsPermutation-refl (held ++ y ∷ ys)) free.0 refl in
      IsPermutation-trans _ _ _ (IsPermutation-with_items (with_item of cmp held y) ys free.1) (IsPermutation-sym _ _ moved)

  -- a key that neither list has
  pub free-with_items : (held xs : List T) (x : T) → AreFree of cmp held xs → list_any (has_key_of of cmp x) held ≡ false → list_any (has_key_of of cmp x) xs ≡ false → list_any (has_key_of of cmp x) (with_items of cmp held xs) ≡ false
  free-with_items held xs x free none fresh =
      list_any-IsPermutation (has_key_of of cmp x) (with_items of cmp held xs) (held ++ xs) (IsPermutation-with_items held xs free) ∙ none_before (has_key_of of cmp x) held xs none ∙ fresh

-- a key that one of the first items has
pub any_before : {T : Type 0} (p : T → Bool) (xs ys : List T) → list_any p xs ≡ true → list_any p (xs ++ ys) ≡ true
any_before p [] ys any = absurd (false≢true any)
any_before p (x ∷ xs) ys any = by_test (p x) refl (λ e. any_before p xs ys e)
  where
    by_test : (b : Bool) → p x ≡ b → (list_any p xs ≡ true → list_any p (xs ++ ys) ≡ true) → list_any p ((x ∷ xs) ++ ys) ≡ true
    by_test true is more = rw is refl
    by_test false is more = rw is (more (rw is at any))

-- The capacity of a map stays, and so many more items fit beside its items and a list, if `certain` holds.
pub record HasRoomBeside {T : Type 0} (certain : Type 0) (left : ℕ) (old now : OrdMap T) (list : List T) : Type 0 where
  pub fits : certain → length (items old) + (length list + left) ≤ old.capacity
  pub grows_unless : GrowsUnless certain old now

module _ {T : Type 0} {certain : Type 0} {left : ℕ} {old now : OrdMap T} {list : List T} (so_far : HasRoomBeside certain left old now list) (same : items now ≡ items old) (next : ℕ) (nearer : next < left) where
  pub GrowsUnless-next : (new : OrdMap T) → GrowsUnless (length (items now) + (length list + 1) ≤ now.capacity) now new → GrowsUnless certain old new
  GrowsUnless-next new step = record {
    no_less_room = omega (arith, so_far.grows_unless.no_less_room, step.no_less_room);
    same_room = λ fit.
        (let kept = so_far.grows_unless.same_room fit in
        step.same_room (omega (arith, so_far.fits fit, nearer, ap length same, kept)) ∙ kept);
  }

  pub HasRoomBeside-next : (new : OrdMap T) (x : T) → GrowsUnless (length (items now) + (length list + 1) ≤ now.capacity) now new → HasRoomBeside certain next old new (list ++ x ∷ [])
  HasRoomBeside-next new x step = record {
    fits = λ fit. omega (arith, so_far.fits fit, nearer, length-append list (x ∷ []));
    grows_unless = GrowsUnless-next new step;
  }
