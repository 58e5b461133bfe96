-- The ends of an iteration for writing, and the items between them.
use Rattle.std.proofs.Common.{◌≡◌, ℕ, zero, suc, ◌+◌, ◌-◌, ◌<◌, List, [], ◌∷◌, ◌++◌, Some, length, get_or, set, take, drop, refl, sym, ap, ◌∙◌, arith}
use Rattle.std.specs.Prelude.{slice_get, slice_range}
use Rattle.std.proofs.lemmas.List.{length-append, length-drop, length-set, length-take-le, drop-set, drop-set-add, drop-set-lt, get_or-drop, take_more, take-append-drop, take-set, take-set-le}
use Rattle.std.proofs.lemmas.List.Folds.{drop_split}
use Rattle.std.proofs.lemmas.Option.{get_or_from_slice_get, slice_get_within}
use Rattle.iddqd_order.specs.declared.place.Place.{Place}
use Rattle.iddqd_order.specs.Row.{block_at, position, HasEntry, IsPlace}
use Rattle.iddqd_order.proofs.PlaceLemmas.{length-same, position-within}
use Rattle.iddqd_ord.specs.Between.{IsBetween}
use Rattle.iddqd_ord.specs.Items.{OrdMap, items}
use Rattle.iddqd_ord.specs.Writing.{changed, length-changed, map_with, position-written}
use Rattle.iddqd_ord.proofs.RewriteLemmas.{from_index, written_behind}

-- an item that is written leaves the ends as they are
IsPlace-written : {T : Type 0} (m : OrdMap T) (p : Place) (f : T → T) (q : Place) → IsPlace m.blocks q → IsPlace (map_with m p f).blocks q
IsPlace-written m p f q is =
    let x = changed f (block_at m.blocks p.block) p.offset in
    record {
      block = omega (arith, length-set m.blocks p.block x, is.block);
      offset = omega (arith, length-same m.blocks p.block x (length-changed f (block_at m.blocks p.block) p.offset) q.block, is.offset);
    }

pub IsBetween-written : {T : Type 0} (m : OrdMap T) (p : Place) (f : T → T) (from to : Place) (left : ℕ) → IsBetween m.blocks from to left → IsBetween (map_with m p f).blocks from to left
IsBetween-written m p f from to left b = record {
  first = IsPlace-written m p f from b.first;
  last = IsPlace-written m p f to b.last;
  count = ap (λ (n : ℕ). n + left) (position-written m p f from) ∙ b.count ∙ sym (position-written m p f to);
}

-- an end moves past an item
pub front_between : {T : Type 0} (m : OrdMap T) (p : Place) (f : T → T) (from after to : Place) (left : ℕ) → IsBetween m.blocks from to left → 0 < left → position m.blocks p ≡ position m.blocks from
    → IsPlace m.blocks after → position m.blocks after ≡ position m.blocks p + 1 → IsBetween (map_with m p f).blocks after to (left - 1)
front_between m p f from after to left b some at place next =
    IsBetween-written m p f after to (left - 1) (record { first = place; last = b.last; count = omega (arith, b.count, at, next, some) })

pub back_between : {T : Type 0} (m : OrdMap T) (p : Place) (f : T → T) (from to : Place) (left : ℕ) → IsBetween m.blocks from to left → 0 < left → position m.blocks p + 1 ≡ position m.blocks to
    → HasEntry m.blocks p → IsBetween (map_with m p f).blocks from p (left - 1)
back_between m p f from to left b some at has = IsBetween-written m p f from p (left - 1) (record {
  first = b.first;
  last = record { block = omega (arith, has.block); offset = omega (arith, has.offset) };
  count = omega (arith, b.count, at, some);
})

-- all items between the ends are in the map
pub length_between : {T : Type 0} (m : OrdMap T) (from to : Place) (left : ℕ) → IsBetween m.blocks from to left → left ≡ length (take left (drop (position m.blocks from) (items m)))
length_between m from to left b =
    let within = position-within m.blocks to b.last in
    sym (length-take-le left (drop (position m.blocks from) (items m)) (omega (arith, b.count, within, length-drop (position m.blocks from) (items m))))

pub parts_between : {T : Type 0} (m : OrdMap T) (from to : Place) (left : ℕ) → IsBetween m.blocks from to left
    → take (position m.blocks from) (items m) ++ (take left (drop (position m.blocks from) (items m)) ++ drop (position m.blocks to) (items m)) ≡ items m
parts_between m from to left b =
    let i = position m.blocks from in
    let k = position m.blocks to in
    let many : left ≡ k - i = omega (arith, b.count) in
    ap (λ (n : ℕ). take i (items m) ++ (take n (drop i (items m)) ++ drop k (items m))) many
    ∙ ap (λ (q : List _). take i (items m) ++ q) (sym (drop_split (items m) i k (omega (arith, b.count)))) ∙ take-append-drop i (items m)

-- the items from one place up to another, which are counted
module _ {T : Type 0} (m : OrdMap T) (from to : Place) (first : IsPlace m.blocks from) (last : IsPlace m.blocks to) (left : ℕ)
    (counted : left ≡ length (slice_range (items m) (position m.blocks from) (position m.blocks to))) where
  pub some_between : (left ≡ 0 → ⊥) → IsBetween m.blocks from to left
  some_between some =
      let i = position m.blocks from in
      let j = position m.blocks to in
      let within = position-within m.blocks to last in
      let many : length (slice_range (items m) i j) ≡ j - i = length-take-le (j - i) (drop i (items m)) (omega (arith, within, length-drop i (items m))) in
      record { first = first; last = last; count = omega (arith, counted, many, some) }

  pub rest_between : take left (drop (position m.blocks from) (items m)) ≡ slice_range (items m) (position m.blocks from) (position m.blocks to)
  rest_between = rw counted (taken (position m.blocks to - position m.blocks from) (drop (position m.blocks from) (items m)))
    where
      taken : (n : ℕ) (xs : List T) → take (length (take n xs)) xs ≡ take n xs
      taken zero xs = refl
      taken (suc n) [] = refl
      taken (suc n) (x ∷ xs) = ap (λ (q : List T). x ∷ q) (taken n xs)

-- a step from the front
module _ {T : Type 0} (xs : List T) (i k left : ℕ) (x : T) (found : slice_get xs i ≡ Some x) (some : 0 < left) (count : i + left ≡ k) where
  first_left : (l : ℕ) → l ≡ left - 1 → take left (drop i xs) ≡ x ∷ take l (drop (i + 1) xs)
  first_left l is =
      let more : left ≡ suc l = omega (arith, is, some) in
      rw more (ap (take (suc l)) (from_index xs i x found))

  pub front_first : (j : ℕ) → j ≡ i + 1 → take left (drop i xs) ≡ x ∷ take (left - 1) (drop j xs)
  front_first j next = rw next (first_left (left - 1) refl)

  pub front_rest : (new : List T) (j : ℕ) (y : T) → new ≡ set xs i y → j ≡ i + 1 → take left (drop i xs) ≡ x ∷ take (left - 1) (drop j new)
  front_rest new j y is next = first_left (left - 1) refl ∙ ap (λ (q : List T). x ∷ take (left - 1) q) (sym (written_behind xs new i j y is next))

  pub front_behind : (new : List T) (j : ℕ) (y : T) → new ≡ set xs i y → j ≡ k → drop j new ≡ drop k xs
  front_behind new j y is same = (λ t. drop (same t) (is t)) ∙ drop-set-lt k xs i y (omega (arith, count, some))

-- a step from behind
module _ {T : Type 0} (xs : List T) (i k left p : ℕ) (x : T) (found : slice_get xs p ≡ Some x) (some : 0 < left) (count : i + left ≡ k) (at : p + 1 ≡ k) where
  within : p < length xs
  within = slice_get_within xs p x found

  last_left : (l : ℕ) → l ≡ left - 1 → take left (drop i xs) ≡ take l (drop i xs) ++ x ∷ []
  last_left l is =
      let more : left ≡ l + 1 = omega (arith, is, some) in
      let here : i + l ≡ p = omega (arith, is, some, count, at) in
      let read : get_or (drop i xs) l x ≡ x = get_or-drop i xs l x ∙ ap (λ (n : ℕ). get_or xs n x) here ∙ get_or_from_slice_get xs p x x found in
      rw more (take_more (drop i xs) l x (omega (arith, length-drop i xs, here, within)) ∙ ap (λ (z : T). take l (drop i xs) ++ z ∷ []) read)

  pub back_rest : (new : List T) (h : ℕ) (y : T) → new ≡ set xs p y → h ≡ i → take left (drop i xs) ≡ take (left - 1) (drop h new) ++ x ∷ []
  back_rest new h y is same =
      let here : p ≡ i + (left - 1) = omega (arith, some, count, at) in
      let now : drop h new ≡ set (drop i xs) (left - 1) y = (λ t. drop (same t) (is t)) ∙ ap (λ (n : ℕ). drop i (set xs n y)) here ∙ drop-set-add i xs (left - 1) y in
      last_left (left - 1) refl ∙ ap (λ (q : List T). q ++ x ∷ []) (sym (ap (take (left - 1)) now ∙ take-set (drop i xs) (left - 1) y))

  pub back_done : (new : List T) (h : ℕ) (y : T) → new ≡ set xs p y → h ≡ i → take h new ≡ take i xs
  back_done new h y is same = (λ t. take (same t) (is t)) ∙ take-set-le i xs p y (omega (arith, some, count, at))

  pub back_behind : (new : List T) (j : ℕ) (y : T) → new ≡ set xs p y → j ≡ p → drop j new ≡ y ∷ drop k xs
  back_behind new j y is same = (λ t. drop (same t) (is t)) ∙ drop-set xs p y within ∙ ap (λ (n : ℕ). y ∷ drop n xs) at

  pub back_last : slice_get (take left (drop i xs)) (length (take left (drop i xs)) - 1) ≡ Some x
  back_last = rw (last_left (left - 1) refl) (last_of (take (left - 1) (drop i xs)))
    where
      last_of : (r : List T) → slice_get (r ++ x ∷ []) (length (r ++ x ∷ []) - 1) ≡ Some x
      last_of [] = refl
      last_of (y ∷ r) =
          let long : length (y ∷ (r ++ x ∷ [])) - 1 ≡ suc (length (r ++ x ∷ []) - 1) = omega (arith, length-append r (x ∷ [])) in
          rw long (last_of r)
