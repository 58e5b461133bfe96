-- A map that gets the items of a list.
use Rattle.std.proofs.Common.{◌≡◌, ℕ, Option, Some, suc, ◌+◌, ◌≤◌, List, [], ◌∷◌, ◌++◌, length, append_assoc, refl, sym, ap, subst, ◌∙◌, arith}
use Rattle.std.specs.Prelude.{filter, fold}
use Rattle.std.specs.Iterator.{Yields, YieldsThen}
use Rattle.std.specs.Ordering.{is_lt, is_gt}
use Rattle.std.specs.declared.cmp.Ordering.{Ordering}
use Rattle.std.specs.declared.cmp.Ordering.TheVariants.{Less, Equal, Greater}
use Rattle.std.proofs.lemmas.List.{length-append}
use Rattle.iddqd_store.proofs.Plain.{by_order}
use Rattle.iddqd_store.specs.Bag.Building.{GivesThen}
use Rattle.iddqd_ord.specs.Batches.{Gathers, StopsAt}
use Rattle.iddqd_ord.specs.Extensions.{ExtendsTo, with_items}
use Rattle.iddqd_ord.specs.Inserts.{Overwrites}
use Rattle.iddqd_ord.specs.Items.{OrdMap, items, most_extended, with_item, Gains, GrowsUnless}
use Rattle.iddqd_ord.specs.declared.item.IdOrdItem as item

pub fold-push : {A B : Type 0} (f : B → A → B) (b : B) (xs : List A) (x : A) → fold f b (xs ++ x ∷ []) ≡ f (fold f b xs) x
fold-push f b [] x = refl
fold-push f b (y ∷ ys) x = fold-push f (f b y) ys x

module _ {T Key : Type 0} (of : item.Ghosts T Key) (cmp : Key → Key → Ordering) where
  -- the lower and the higher items are some of all
  parts : (x : T) (xs : List T) → length (filter (λ y. is_lt (cmp (of.key y) (of.key x))) xs) + length (filter (λ y. is_gt (cmp (of.key y) (of.key x))) xs) ≤ length xs
  parts x [] = omega arith
  parts x (y ∷ ys) = by_place (cmp (of.key y) (of.key x)) refl (parts x ys)
    where
      by_place : (o : Ordering) → cmp (of.key y) (of.key x) ≡ o
          → length (filter (λ y. is_lt (cmp (of.key y) (of.key x))) ys) + length (filter (λ y. is_gt (cmp (of.key y) (of.key x))) ys) ≤ length ys
          → length (filter (λ y. is_lt (cmp (of.key y) (of.key x))) (y ∷ ys)) + length (filter (λ y. is_gt (cmp (of.key y) (of.key x))) (y ∷ ys)) ≤ length (y ∷ ys)
      by_place Less is more = rw is (omega arith)
      by_place Equal is more = rw is (omega arith)
      by_place Greater is more = rw is (omega arith)

  length-with_item : (xs : List T) (x : T) → length (with_item of cmp xs x) ≤ suc (length xs)
  length-with_item xs x =
      omega (arith, parts x xs, length-append (filter (λ y. is_lt (cmp (of.key y) (of.key x))) xs) (x ∷ filter (λ y. is_gt (cmp (of.key y) (of.key x))) xs))

  -- a list that is put brings no more items than it has
  length-with_items : (xs ys : List T) → length (with_items of cmp xs ys) ≤ length xs + length ys
  length-with_items xs [] = omega arith
  length-with_items xs (y ∷ ys) = omega (arith, length-with_items (with_item of cmp xs y) ys, length-with_item xs y)

  with_items-append : (m xs ys : List T) → with_items of cmp m (xs ++ ys) ≡ with_items of cmp (with_items of cmp m xs) ys
  with_items-append m [] ys = refl
  with_items-append m (x ∷ xs) ys = with_items-append (with_item of cmp m x) xs ys

  pub ExtendsTo-none : (m : OrdMap T) → length (items m) ≤ m.capacity → ExtendsTo of cmp m [] m
  ExtendsTo-none m fits = record { lists = refl; fits = fits; no_less_room = omega arith; same_room = λ room. refl; most = omega arith }

  pub ExtendsTo-overwrites : {old new : OrdMap T} {x : T} → Overwrites of cmp old x new → ExtendsTo of cmp old (x ∷ []) new
  ExtendsTo-overwrites {old} put = record {
    lists = put.lists;
    fits = put.fits;
    no_less_room = put.no_less_room;
    same_room = λ room. put.same_room (omega (arith, room));
    most = by_order (length (items old)) old.capacity (λ spare. omega (arith, put.same_room spare)) (λ full. omega (arith, put.most, full));
  }

  pub ExtendsTo-gains : {old new : OrdMap T} {x : T} → Gains of cmp old x new → ExtendsTo of cmp old (x ∷ []) new
  ExtendsTo-gains {old} put = record {
    lists = put.lists;
    fits = put.fits;
    no_less_room = put.no_less_room;
    same_room = λ room. put.same_room (omega (arith, room));
    most = by_order (length (items old)) old.capacity (λ spare. omega (arith, put.same_room spare)) (λ full. omega (arith, put.most, full));
  }

  module _ {old now : OrdMap T} {xs : List T} (so_far : ExtendsTo of cmp old xs now) where
    -- what fits beside a list, fits once that was put
    pub room_left : (left : ℕ) → length (items old) + (length xs + left) ≤ old.capacity → length (items now) + left ≤ now.capacity
    room_left left room = omega (arith, so_far.same_room (omega (arith, room)), ap length so_far.lists, length-with_items (items old) xs, room)

    -- one more fits beside a list: the map is not full
    pub not_full : length (items old) + (length xs + 1) ≤ old.capacity → length (items now) ≡ now.capacity → ⊥
    not_full room full = omega (arith, room_left 1 room, full)

    pub ExtendsTo-append : {new : OrdMap T} {ys : List T} → ExtendsTo of cmp now ys new → ExtendsTo of cmp old (xs ++ ys) new
    ExtendsTo-append {new} {ys} more = record {
      lists = more.lists ∙ ap (λ (l : List T). with_items of cmp l ys) so_far.lists ∙ sym (with_items-append (items old) xs ys);
      fits = more.fits;
      no_less_room = omega (arith, so_far.no_less_room, more.no_less_room);
      same_room = λ room.
          (let both : length (items old) + (length xs + length ys) ≤ old.capacity = omega (arith, length-append xs ys, room) in
          more.same_room (room_left (length ys) both) ∙ so_far.same_room (omega (arith, both)));
      most = omega (arith, more.most, so_far.most, ap length so_far.lists, length-with_items (items old) xs, length-append xs ys);
    }

    -- the capacity is lowered again
    pub ExtendsTo-lowered : (new : OrdMap T) → items new ≡ items now → length (items new) ≤ new.capacity → old.capacity ≤ new.capacity → new.capacity ≤ now.capacity → ExtendsTo of cmp old xs new
    ExtendsTo-lowered new same fits least most = record {
      lists = same ∙ so_far.lists;
      fits = fits;
      no_less_room = least;
      same_room = λ room. omega (arith, least, most, so_far.same_room room);
      most = omega (arith, most, so_far.most);
    }

    -- the capacity grew before
    pub ExtendsTo-grown : {first : OrdMap T} → items old ≡ items first → GrowsUnless (length (items first) + length xs ≤ first.capacity) first old
        → old.capacity ≤ most_extended first.capacity (length (items first) + length xs) → ExtendsTo of cmp first xs now
    ExtendsTo-grown {first} same grows most = record {
      lists = so_far.lists ∙ ap (λ (l : List T). with_items of cmp l xs) same;
      fits = so_far.fits;
      no_less_room = omega (arith, grows.no_less_room, so_far.no_less_room);
      same_room = λ room. so_far.same_room (omega (arith, ap length same, grows.same_room room, room)) ∙ grows.same_room room;
      most = omega (arith, most, so_far.most, ap length same);
    }

    -- an item of those that come next is refused
    pub StopsAt-append : {new : OrdMap T} {ys : List T} {x : T} → StopsAt of cmp now ys x new → StopsAt of cmp old (xs ++ ys) x new
    StopsAt-append {x = x} stops = record {
      before = xs ++ stops.before;
      behind = stops.behind;
      is = ap (λ (l : List T). xs ++ l) stops.is ∙ sym (append_assoc xs stops.before (x ∷ stops.behind));
      extends = ExtendsTo-append stops.extends;
    }

  -- the first of a list is refused
  pub StopsAt-first : (m : OrdMap T) (x : T) (rest : List T) → length (items m) ≤ m.capacity → StopsAt of cmp m (x ∷ rest) x m
  StopsAt-first m x rest fits = record { before = []; behind = rest; is = refl; extends = ExtendsTo-none m fits }

  -- what stops in a list stops in a longer one
  pub StopsAt-more : {old new : OrdMap T} {list : List T} {x : T} (more : List T) → StopsAt of cmp old list x new → StopsAt of cmp old (list ++ more) x new
  StopsAt-more {x = x} more stops = record {
    before = stops.before;
    behind = stops.behind ++ more;
    is = ap (λ (l : List T). l ++ more) stops.is ∙ append_assoc stops.before (x ∷ stops.behind) more;
    extends = stops.extends;
  }

  module _ {old now : OrdMap T} {list left : List T} (so_far : Gathers of cmp old list now left) where
    pub Gathers-next : {new : OrdMap T} (x : T) (rest : List T) → Gathers of cmp now (left ++ x ∷ []) new rest → Gathers of cmp old (list ++ x ∷ []) new rest
    Gathers-next x rest next = record {
      put = so_far.put ++ next.put;
      is = ap (λ (l : List T). l ++ x ∷ []) so_far.is ∙ append_assoc so_far.put left (x ∷ []) ∙ ap (λ (l : List T). so_far.put ++ l) next.is ∙ sym (append_assoc so_far.put next.put rest);
      extends = ExtendsTo-append so_far.extends next.extends;
    }

    pub Gathers-stops : {new : OrdMap T} {x : T} → StopsAt of cmp now left x new → StopsAt of cmp old list x new
    Gathers-stops {new} {x} stops = subst (λ (l : List T). StopsAt of cmp old l x new) (sym so_far.is) (StopsAt-append so_far.extends stops)

    pub StopsAt-next : {new : OrdMap T} {x : T} (y : T) → StopsAt of cmp now (left ++ y ∷ []) x new → StopsAt of cmp old (list ++ y ∷ []) x new
    StopsAt-next {new} {x} y stops =
        subst (λ (l : List T). StopsAt of cmp old l x new) (sym (ap (λ (l : List T). l ++ y ∷ []) so_far.is ∙ append_assoc so_far.put left (y ∷ []))) (StopsAt-append so_far.extends stops)

    pub Gathers-all : {new : OrdMap T} → ExtendsTo of cmp now left new → ExtendsTo of cmp old list new
    Gathers-all {new} rest = subst (λ (l : List T). ExtendsTo of cmp old l new) (sym so_far.is) (ExtendsTo-append so_far.extends rest)

    -- the first of those that are left is put
    pub Gathers-put : {new : OrdMap T} (x : T) (rest : List T) → left ≡ x ∷ rest → ExtendsTo of cmp now (x ∷ []) new → Gathers of cmp old list new rest
    Gathers-put x rest first done = record {
      put = so_far.put ++ x ∷ [];
      is = so_far.is ∙ ap (λ (l : List T). so_far.put ++ l) first ∙ sym (append_assoc so_far.put (x ∷ []) rest);
      extends = ExtendsTo-append so_far.extends done;
    }

    -- the first of those that are left is refused
    pub Gathers-refuses : (x : T) (rest : List T) → left ≡ x ∷ rest → StopsAt of cmp old list x now
    Gathers-refuses x rest first = record {
      before = so_far.put;
      behind = rest;
      is = so_far.is ∙ ap (λ (l : List T). so_far.put ++ l) first;
      extends = so_far.extends;
    }

    -- if all of the list fits, the map is not full as long as some are left
    pub Gathers-not_full : (x : T) (rest : List T) → left ≡ x ∷ rest → length (items old) + length list ≤ old.capacity → length (items now) ≡ now.capacity → ⊥
    Gathers-not_full x rest first room = not_full so_far.extends (omega (arith, ap length so_far.is, ap length first, length-append so_far.put left, room))

    -- what fits beside the list, fits beside those that are left
    pub Gathers-room : (more : ℕ) → length (items old) + (length list + more) ≤ old.capacity → length (items now) + (length left + more) ≤ now.capacity
    Gathers-room more room = room_left so_far.extends (length left + more) (omega (arith, ap length so_far.is, length-append so_far.put left, room))

    pub Gathers-room_all : length (items old) + length list ≤ old.capacity → length (items now) + length left ≤ now.capacity
    Gathers-room_all room = omega (arith, Gathers-room 0 (omega (arith, room)))

module _ {S A : Type 0} (steps : S → Option A → S → Type 0) where
  -- an iterator gave what it gave before one of its items, and then that item
  yields_then : (s t : S) (before behind : List A) (x : A) → Yields steps s (before ++ x ∷ behind) t → (rest : S) × YieldsThen steps s before (Some x) rest
  yields_then s t [] behind x gave = (gave.0, (s, refl, gave.1))
  yields_then s t (y ∷ before) behind x gave =
      let more = yields_then gave.0 t before behind x gave.2 in
      (more.0, (more.1.0, (gave.0, gave.1, more.1.1), more.1.2))

  -- one more call
  pub yields_more : (s t u : S) (xs : List A) (x : A) → Yields steps s xs t → steps t (Some x) u → Yields steps s (xs ++ x ∷ []) u
  yields_more s t u [] x gave step = (u, subst (λ (q : S). steps q (Some x) u) (sym gave) step, refl)
  yields_more s t u (y ∷ ys) x gave step = (gave.0, gave.1, yields_more gave.0 t u ys x gave.2 step)

-- an item that is refused among those that came is one that the iterator gave
pub gives_then : {U S T Key : Type 0} (becomes : U → S → Type 0) (steps : S → Option T → S → Type 0) (of : item.Ghosts T Key) (cmp : Key → Key → Ordering) (old new : OrdMap T) (iter : U) (s t : S) (came : List T) (x : T)
    → becomes iter s → Yields steps s came t → StopsAt of cmp old came x new → GivesThen becomes steps iter x (λ xs. ExtendsTo of cmp old xs new)
gives_then {T = T} becomes steps of cmp old new iter s t came x made gave stops =
    let then = yields_then steps s t stops.before stops.behind x (subst (λ (l : List T). Yields steps s l t) stops.is gave) in
    (s, stops.before, then.0, made, then.1, stops.extends)
