-- A map in which the data of an item were written.
use Rattle.std.proofs.Common.{◌≡◌, ◌≢◌, ℕ, zero, suc, ◌+◌, ◌<◌, true, false, List, [], ◌∷◌, Some, length, get_or, set, refl, sym, ap, subst, ◌∙◌, arith, inl, inr}
use Rattle.std.specs.Prelude.{map, slice_set, slice_get, if◌then◌else◌}
use Rattle.std.specs.Cmp.{IsTotalOrder}
use Rattle.std.specs.Ordering.{ordering_reverse, is_eq}
use Rattle.std.specs.declared.cmp.Ordering.{Ordering}
use Rattle.std.specs.declared.cmp.Ordering.TheVariants.{Equal}
use Rattle.std.proofs.lemmas.List.{set-get_or}
use Rattle.std.proofs.lemmas.Option.{slice_get-get_or, get_or_from_slice_get, slice_get_within}
use Rattle.std.proofs.lemmas.Bool.{cases_lt}
use Rattle.iddqd_store.specs.Bag.{IsOnly}
use Rattle.iddqd_order.specs.declared.place.Place.{Place}
use Rattle.iddqd_order.specs.Row.{line, block_at, position, with_entry, HasEntry}
use Rattle.iddqd_order.specs.Search.{IsSplit}
use Rattle.iddqd_order.proofs.LineLemmas.{entry_at_position, line_replaced}
use Rattle.iddqd_order.proofs.PlaceLemmas.{position-below}
use Rattle.iddqd_ord.specs.Items.{OrdMap, items}
use Rattle.iddqd_ord.specs.Lent.{in_place, with_data, WritesTo}
use Rattle.iddqd_ord.specs.Writing.{changed, map_with}
use Rattle.iddqd_ord.specs.Ordered.{IsAscending}
use Rattle.iddqd_ord.proofs.OrderLemmas.{ascending-set}
use Rattle.iddqd_order.proofs.FilterLemmas.{found-split}

Some-injective : {X : Type 0} {x y : X} → Some x ≡ Some y → x ≡ y
Some-injective e = cc

-- within a list there is an item
pub item_there : {T : Type 0} (xs : List T) (i : ℕ) → i < length xs → (x : T) × (slice_get xs i ≡ Some x)
item_there [] i lt = absurd (omega arith)
item_there (x ∷ xs) zero lt = (x, refl)
item_there (x ∷ xs) (suc i) lt = item_there xs i (omega arith)

-- a function that changes one item alone
module _ {T : Type 0} (f : T → T) where
  map-none : (xs : List T) → ((j : ℕ) (e : T) → j < length xs → f (get_or xs j e) ≡ get_or xs j e) → map f xs ≡ xs
  map-none [] kept = refl
  map-none (x ∷ xs) kept = rw (kept 0 x (omega arith)) (ap (λ (q : List T). x ∷ q) (map-none xs (λ j e lt. kept (suc j) e (omega arith))))

  pub map-one : (xs : List T) (i : ℕ) (x : T) → i < length xs → x ≡ get_or xs i x → ((j : ℕ) (e : T) → j < length xs → j ≢ i → f (get_or xs j e) ≡ get_or xs j e) → map f xs ≡ set xs i (f x)
  map-one [] i x lt is kept = absurd (omega arith)
  map-one (y ∷ xs) zero x lt is kept =
      rw is (ap (λ (q : List T). f y ∷ q) (map-none xs (λ j e less. kept (suc j) e (omega arith) (λ same. absurd (omega (arith, same))))))
  map-one (y ∷ xs) (suc i) x lt is kept =
      rw (kept 0 y (omega arith) (λ same. absurd (omega (arith, same))))
      (ap (λ (q : List T). y ∷ q) (map-one xs i x (omega arith) is (λ j e less other. kept (suc j) e (omega arith) (λ same. other (omega (arith, same))))))

-- an item was written
module _ {T : Type 0} where
  changed_is : (f : T → T) (xs : List T) (k : ℕ) (x : T) → k < length xs → x ≡ get_or xs k x → changed f xs k ≡ set xs k (f x)
  changed_is f [] k x lt is = absurd (omega arith)
  changed_is f (y ∷ xs) zero x lt is = ap (λ (z : T). f z ∷ xs) (sym is)
  changed_is f (y ∷ xs) (suc k) x lt is = ap (λ (q : List T). y ∷ q) (changed_is f xs k x (omega arith) is)

  module _ (m : OrdMap T) (p : Place) (there : HasEntry m.blocks p) (x : T) (at : (d : T) → x ≡ get_or (line m.blocks) (position m.blocks p) d) where
    abbrev i : ℕ
    i = position m.blocks p

    below : i < length (line m.blocks)
    below = position-below m.blocks p there

    in_block : x ≡ get_or (block_at m.blocks p.block) p.offset x
    in_block = at x ∙ entry_at_position m.blocks p.block p.offset x there.block there.offset

    pub map_with_is : (f : T → T) → map_with m p f ≡ with_entry m p (f x)
    map_with_is f = ap (λ (q : List T). let o : OrdMap T = record { blocks = set m.blocks p.block q; capacity = m.capacity } in o) (changed_is f (block_at m.blocks p.block) p.offset x there.offset in_block)

    pub place_item : slice_get (items m) (position m.blocks p) ≡ Some x
    place_item = slice_get-get_or (items m) i x below ∙ ap Some (sym (at x))

    pub place_same : (y : T) → slice_get (items m) (position m.blocks p) ≡ Some y → x ≡ y
    place_same y found = Some-injective (sym place_item ∙ found)

    pub place_written : (f : T → T) (y : T) → slice_get (items m) (position m.blocks p) ≡ Some y → items (map_with m p f) ≡ slice_set (items m) (position m.blocks p) (f y)
    place_written f y found =
        ap (λ (o : OrdMap T). line o.blocks) (map_with_is f)
        ∙ line_replaced m.blocks p.block p.offset (f x) there.block there.offset
        ∙ ap (λ (z : T). set (line m.blocks) (position m.blocks p) (f z)) (place_same y found)

    pub place_kept : (f : T → T) (y : T) → slice_get (items m) (position m.blocks p) ≡ Some y → f y ≡ y → map_with m p f ≡ m
    place_kept f y found same =
        let back : f x ≡ x = ap f (place_same y found) ∙ same ∙ sym (place_same y found) in
        let block : set (block_at m.blocks p.block) p.offset (f x) ≡ block_at m.blocks p.block =
        ap (λ (z : T). set (block_at m.blocks p.block) p.offset z) (back ∙ in_block) ∙ set-get_or (block_at m.blocks p.block) p.offset x in
        let row : set m.blocks p.block (set (block_at m.blocks p.block) p.offset (f x)) ≡ m.blocks = ap (λ (q : List T). set m.blocks p.block q) block ∙ set-get_or m.blocks p.block [] in
        map_with_is f ∙ ap (λ (q : List (List T)). let o : OrdMap T = record { blocks = q; capacity = m.capacity } in o) row

module _ {T K D : Type 0} {cmp : K → K → Ordering} (o : IsTotalOrder cmp) (key : T → K) (put : T → D → T)
    (keeps : (x : T) (d : D) → cmp (key (put x d)) (key x) ≡ Equal) where
  pub IsAscending-written : (m : OrdMap T) (p : Place) → HasEntry m.blocks p → (x : T) → ((d : T) → x ≡ get_or (line m.blocks) (position m.blocks p) d) → IsAscending cmp key (line m.blocks)
      → (d : D) → IsAscending cmp key (line (with_entry m p (put x d)).blocks)
  IsAscending-written m p there x at up d =
      subst (IsAscending cmp key) (sym (line_replaced m.blocks p.block p.offset (put x d) there.block there.offset))
      (ascending-set o key (line m.blocks) (position m.blocks p) (put x d) (position-below m.blocks p there)
      (λ e. ap (λ (y : T). cmp (key y) (key (put x d))) (sym (at e)) ∙ o.antisymm (key x) (key (put x d)) ∙ ap ordering_reverse (keeps x d)) up)

-- the item that a search found
module _ {T : Type 0} (compare : T → Ordering) (xs : List T) (i : ℕ) (s : IsSplit compare xs i 1) where
  -- the others fail the test
  others : (j : ℕ) (e : T) → j < length xs → j ≢ i → is_eq (compare (get_or xs j e)) ≡ false
  others j e lt other = elim (cases_lt j i) [
    | inl low ↦ ap is_eq (s.below j e low)
    | inr high ↦ ap is_eq (s.above j e (elim (cases_lt j (i + 1)) [ inl at ↦ absurd (other (omega (arith, at, high))) | inr past ↦ past ]) lt)
  ]

  module _ (x : T) (found : slice_get xs i ≡ Some x) where
    read : x ≡ get_or xs i x
    read = sym (get_or_from_slice_get xs i x x found)

    within : i < length xs
    within = slice_get_within xs i x found

    passes : is_eq (compare x) ≡ true
    passes = ap (λ (y : T). is_eq (compare y)) read ∙ ap is_eq (s.equal i x (omega arith) (omega arith))

    -- it is the only one that passes
    pub found_only : IsOnly (λ y. is_eq (compare y)) xs (Some x)
    found_only = found-split compare xs i s x read

    -- a function that leaves the others as they are changes it alone
    pub found_mapped : (f : T → T) → ((y : T) → is_eq (compare y) ≡ false → f y ≡ y) → map f xs ≡ set xs i (f x)
    found_mapped f kept = map-one f xs i x within read (λ j e lt other. kept (get_or xs j e) (others j e lt other))

    pub found_data : {D : Type 0} (put : T → D → T) (d : D) → with_data put (λ y. is_eq (compare y)) d xs ≡ set xs i (put x d)
    found_data put d =
        let f : T → T = λ y. if is_eq (compare y) then put y d else y in
        let at : f x ≡ put x d = rw passes refl in
        found_mapped f (λ y fails. rw fails refl) ∙ ap (set xs i) at

    -- another item stands in its place
    pub found_replaced : (y : T) → set xs i y ≡ in_place (λ z. is_eq (compare z)) y xs
    found_replaced y =
        let f : T → T = λ z. if is_eq (compare z) then y else z in
        let at : f x ≡ y = rw passes refl in
        sym (found_mapped f (λ z fails. rw fails refl) ∙ ap (set xs i) at)

    pub found_maps : {D : Type 0} (answers : T → D → Type 0) (put : T → D → T) (d : D) → answers x d → (write : T → T) → ((x : T) (d : D) → is_eq (compare x) ≡ true → answers x d → write x ≡ put x d)
        → ((x : T) → is_eq (compare x) ≡ false → write x ≡ x) → set xs i (put x d) ≡ map write xs
    found_maps answers put d gives write stored kept = sym (found_mapped write kept ∙ ap (set xs i) (stored x d passes gives))

pub found_writes : {T D : Type 0} (compare : T → Ordering) (put : T → D → T) (m new : OrdMap T) (i : ℕ) (s : IsSplit compare (items m) i 1) (x : T) (d : D) → slice_get (items m) i ≡ Some x
    → items new ≡ slice_set (items m) i (put x d) → (put x d ≡ x → new ≡ m) → new.capacity ≡ m.capacity → WritesTo put (λ y. is_eq (compare y)) m d new
found_writes compare put m new i s x d found written kept room = record {
  lists = written ∙ sym (found_data compare (items m) i s x found put d);
  unchanged = λ same. kept (same x (found_only compare (items m) i s x found));
  same_room = room;
}

-- a search found none
pub absent_maps : {T : Type 0} (compare : T → Ordering) (xs : List T) (i : ℕ) → IsSplit compare xs i 0 → (write : T → T) → ((x : T) → is_eq (compare x) ≡ false → write x ≡ x) → xs ≡ map write xs
absent_maps compare xs i s write kept = sym (map-none write xs (λ j e lt. kept (get_or xs j e) (elim (cases_lt j i) [
  | inl low ↦ ap is_eq (s.below j e low)
  | inr high ↦ ap is_eq (s.above j e (omega arith) lt)
])))
