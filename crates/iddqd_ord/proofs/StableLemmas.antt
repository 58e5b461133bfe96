-- A list in another order, in which items with equal keys keep theirs, makes the same map.
use Rattle.std.proofs.Common.{◌≡◌, ◌+◌, Bool, true, false, List, [], ◌∷◌, ◌++◌, length, append_assoc, refl, sym, ap, ◌∙◌, arith}
use Rattle.std.specs.Prelude.{filter}
use Rattle.std.specs.List.Sorted.{ties, IsStableBy}
use Rattle.std.specs.Ordering.{is_lt, is_eq, is_gt, ordering_reverse}
use Rattle.std.specs.Cmp.{IsTotalOrder, alike_right}
use Rattle.std.specs.declared.cmp.Ordering.{Ordering}
use Rattle.std.specs.declared.cmp.Ordering.TheVariants.{Less, Equal, Greater}
use Rattle.std.proofs.lemmas.Bool.{false≢true}
use Rattle.std.proofs.lemmas.Cmp.{tied_itself}
use Rattle.std.proofs.lemmas.List.{append-nil}
use Rattle.std.proofs.lemmas.List.Elements.{filter-append, filter_agree}
use Rattle.iddqd_ord.specs.Extensions.{ExtendsTo, with_items}
use Rattle.iddqd_ord.specs.Items.{OrdMap, items, has_key_of, with_item}
use Rattle.iddqd_ord.specs.declared.item.IdOrdItem as item

module _ {T : Type 0} where
  here_passes : (p : T → Bool) (x : T) (xs : List T) → p x ≡ true → filter p (x ∷ xs) ≡ x ∷ filter p xs
  here_passes p x xs passes = rw passes refl

  here_fails : (p : T → Bool) (x : T) (xs : List T) → p x ≡ false → filter p (x ∷ xs) ≡ filter p xs
  here_fails p x xs fails = rw fails refl

  -- what passes the second test passes the first one
  filter-within : (p q : T → Bool) → ((x : T) → q x ≡ true → p x ≡ true) → (xs : List T) → filter q (filter p xs) ≡ filter q xs
  filter-within p q also [] = refl
  filter-within p q also (x ∷ xs) = by_test (p x) refl (q x) refl (filter-within p q also xs)
    where
      by_test : (b : Bool) → p x ≡ b → (c : Bool) → q x ≡ c → filter q (filter p xs) ≡ filter q xs → filter q (filter p (x ∷ xs)) ≡ filter q (x ∷ xs)
      by_test true here true there more = rw (here, there) (ap (λ (ys : List T). x ∷ ys) more)
      by_test true here false there more = rw (here, there) more
      by_test false here true there more = absurd (false≢true (sym here ∙ also x there))
      by_test false here false there more = rw (here, there) more

  -- what passes the first test passes the second one
  filter-again : (p q : T → Bool) → ((x : T) → p x ≡ true → q x ≡ true) → (xs : List T) → filter q (filter p xs) ≡ filter p xs
  filter-again p q also [] = refl
  filter-again p q also (x ∷ xs) = by_test (p x) refl (filter-again p q also xs)
    where
      by_test : (b : Bool) → p x ≡ b → filter q (filter p xs) ≡ filter p xs → filter q (filter p (x ∷ xs)) ≡ filter p (x ∷ xs)
      by_test true here more = rw (here, also x here) (ap (λ (ys : List T). x ∷ ys) more)
      by_test false here more = rw here more

  -- nothing passes both tests
  filter-apart : (p q : T → Bool) → ((x : T) → p x ≡ true → q x ≡ false) → (xs : List T) → filter q (filter p xs) ≡ []
  filter-apart p q apart [] = refl
  filter-apart p q apart (x ∷ xs) = by_test (p x) refl (filter-apart p q apart xs)
    where
      by_test : (b : Bool) → p x ≡ b → filter q (filter p xs) ≡ [] → filter q (filter p (x ∷ xs)) ≡ []
      by_test true here more = rw (here, apart x here) more
      by_test false here more = rw here more

  filter-swap : (p q : T → Bool) (xs : List T) → filter q (filter p xs) ≡ filter p (filter q xs)
  filter-swap p q [] = refl
  filter-swap p q (x ∷ xs) = by_test (p x) refl (q x) refl (filter-swap p q xs)
    where
      by_test : (b : Bool) → p x ≡ b → (c : Bool) → q x ≡ c → filter q (filter p xs) ≡ filter p (filter q xs) → filter q (filter p (x ∷ xs)) ≡ filter p (filter q (x ∷ xs))
      by_test true here true there more = rw (here, there) (rw here (ap (λ (ys : List T). x ∷ ys) more))
      by_test true here false there more = rw (here, there) more
      by_test false here true there more = rw (here, there) (rw here more)
      by_test false here false there more = rw (here, there) more

  -- the part of a list before the first item that passes
  pub record HasFirst (p : T → Bool) (xs : List T) (x : T) (rest : List T) : Type 0 where
    pub before : List T
    pub behind : List T
    pub is : xs ≡ before ++ x ∷ behind
    pub none : filter p before ≡ []
    pub others : filter p behind ≡ rest

  pub first_passing : (p : T → Bool) (xs : List T) (x : T) (rest : List T) → filter p xs ≡ x ∷ rest → HasFirst p xs x rest
  first_passing p [] x rest e = absurd (cc e)
  first_passing p (y ∷ ys) x rest e = by_test (p y) refl (first_passing p ys x rest)
    where
      by_test : (b : Bool) → p y ≡ b → (filter p ys ≡ x ∷ rest → HasFirst p ys x rest) → HasFirst p (y ∷ ys) x rest
      by_test true here more =
          let same : y ∷ filter p ys ≡ x ∷ rest = rw here at e in
          let head : y ≡ x = cc same in
          let tail : filter p ys ≡ rest = cc same in
          record { before = []; behind = ys; is = ap (λ (z : T). z ∷ ys) head; none = refl; others = tail }
      by_test false here more =
          let f = more (rw here at e) in
          record { before = y ∷ f.before; behind = f.behind; is = ap (λ (zs : List T). y ∷ zs) f.is; none = rw here f.none; others = f.others }

is_less : (r : Ordering) → is_lt r ≡ true → r ≡ Less
is_less Less e = refl
is_less Equal e = absurd (false≢true e)
is_less Greater e = absurd (false≢true e)

is_equal : (r : Ordering) → is_eq r ≡ true → r ≡ Equal
is_equal Less e = absurd (false≢true e)
is_equal Equal e = refl
is_equal Greater e = absurd (false≢true e)

is_greater : (r : Ordering) → is_gt r ≡ true → r ≡ Greater
is_greater Less e = absurd (false≢true e)
is_greater Equal e = absurd (false≢true e)
is_greater Greater e = refl

module _ {T Key : Type 0} (of : item.Ghosts T Key) (cmp : Key → Key → Ordering) (o : IsTotalOrder cmp) where
  abbrev lower : T → T → Bool
  lower x y = is_lt (cmp (of.key y) (of.key x))

  abbrev higher : T → T → Bool
  higher x y = is_gt (cmp (of.key y) (of.key x))

  abbrev alike : T → T → Bool
  alike x y = has_key_of of cmp x y

  back : (a b : Key) (r : Ordering) → cmp a b ≡ r → cmp b a ≡ ordering_reverse r
  back a b r e = o.antisymm b a ∙ ap ordering_reverse e

  -- an item and a higher one may be put in either order
  swap_higher : (m : List T) (x y : T) → cmp (of.key x) (of.key y) ≡ Less → with_item of cmp (with_item of cmp m x) y ≡ with_item of cmp (with_item of cmp m y) x
  swap_higher m x y less =
      let more = back _ _ Less less in
      let lower_too : (z : T) → lower x z ≡ true → lower y z ≡ true = λ z e. ap is_lt (o.trans _ _ _ (is_less _ e) less) in
      let not_higher : (z : T) → lower x z ≡ true → higher y z ≡ false = λ z e. ap is_gt (o.trans _ _ _ (is_less _ e) less) in
      let above : (z : T) → higher y z ≡ true → cmp (of.key z) (of.key x) ≡ Greater = λ z e. back _ _ Less (o.trans _ _ _ less (back _ _ Greater (is_greater _ e))) in
      let higher_too : (z : T) → higher y z ≡ true → higher x z ≡ true = λ z e. ap is_gt (above z e) in
      let not_lower : (z : T) → higher y z ≡ true → lower x z ≡ false = λ z e. ap is_lt (above z e) in
      let first : filter (lower y) (with_item of cmp m x) ≡ filter (lower x) m ++ x ∷ filter (lower y) (filter (higher x) m) =
      filter-append (lower y) (filter (lower x) m) (x ∷ filter (higher x) m) ∙ (λ t. filter-again (lower x) (lower y) lower_too m t ++ here_passes (lower y) x (filter (higher x) m) (ap is_lt less) t) in
      let behind : filter (higher y) (with_item of cmp m x) ≡ filter (higher y) m =
      filter-append (higher y) (filter (lower x) m) (x ∷ filter (higher x) m)
      ∙ (λ t. filter-apart (lower x) (higher y) not_higher m t ++ here_fails (higher y) x (filter (higher x) m) (ap is_gt less) t)
      ∙ filter-within (higher x) (higher y) higher_too m in
      let first_then : filter (lower x) (with_item of cmp m y) ≡ filter (lower x) m =
      filter-append (lower x) (filter (lower y) m) (y ∷ filter (higher y) m)
      ∙ (λ t. filter-within (lower y) (lower x) lower_too m t ++ (here_fails (lower x) y (filter (higher y) m) (ap is_lt more) ∙ filter-apart (higher y) (lower x) not_lower m) t)
      ∙ append-nil (filter (lower x) m) in
      let behind_then : filter (higher x) (with_item of cmp m y) ≡ filter (higher x) (filter (lower y) m) ++ y ∷ filter (higher y) m =
      filter-append (higher x) (filter (lower y) m) (y ∷ filter (higher y) m)
      ∙ (λ t. filter (higher x) (filter (lower y) m) ++ (here_passes (higher x) y (filter (higher y) m) (ap is_gt more) ∙ ap (λ (zs : List T). y ∷ zs) (filter-again (higher y) (higher x) higher_too m)) t) in
      (λ t. first t ++ y ∷ behind t)
      ∙ append_assoc (filter (lower x) m) (x ∷ filter (lower y) (filter (higher x) m)) (y ∷ filter (higher y) m)
      ∙ (λ t. filter (lower x) m ++ x ∷ (filter-swap (higher x) (lower y) m t ++ y ∷ filter (higher y) m))
      ∙ sym (λ t. first_then t ++ x ∷ behind_then t)

  -- two items with different keys may be put in either order
  swap_items : (m : List T) (x y : T) → alike x y ≡ false → with_item of cmp (with_item of cmp m x) y ≡ with_item of cmp (with_item of cmp m y) x
  swap_items m x y other = by_order (cmp (of.key y) (of.key x)) refl
    where
      by_order : (r : Ordering) → cmp (of.key y) (of.key x) ≡ r → with_item of cmp (with_item of cmp m x) y ≡ with_item of cmp (with_item of cmp m y) x
      by_order Less e = sym (swap_higher m y x e)
      by_order Equal e = absurd (false≢true (sym other ∙ ap is_eq e))
      by_order Greater e = swap_higher m x y (back _ _ Greater e)

  -- an item may be put before others that have other keys
  put_first : (m before behind : List T) (x : T) → filter (alike x) before ≡ [] → with_items of cmp m (x ∷ (before ++ behind)) ≡ with_items of cmp m (before ++ x ∷ behind)
  put_first m [] behind x none = refl
  put_first m (y ∷ ys) behind x none = by_test (alike x y) refl (put_first (with_item of cmp m y) ys behind x)
    where
      by_test : (b : Bool) → alike x y ≡ b → (filter (alike x) ys ≡ [] → with_items of cmp (with_item of cmp m y) (x ∷ (ys ++ behind)) ≡ with_items of cmp (with_item of cmp m y) (ys ++ x ∷ behind))
          → with_items of cmp m (x ∷ ((y ∷ ys) ++ behind)) ≡ with_items of cmp m ((y ∷ ys) ++ x ∷ behind)
      by_test true is more = absurd (cc (sym (here_passes (alike x) y ys is) ∙ none))
      by_test false is more = ap (λ (l : List T). with_items of cmp l (ys ++ behind)) (swap_items m x y is) ∙ more (sym (here_fails (alike x) y ys is) ∙ none)

  itself : (x : T) → alike x x ≡ true
  itself x = ap is_eq (tied_itself o (of.key x))

  -- Items with equal keys stand in both lists in the same order.
  abbrev pub IsStable : List T → List T → Type 0
  IsStable xs ys = (z : T) → filter (alike z) ys ≡ filter (alike z) xs

  -- one item less in both lists
  stable_rest : (x : T) (xs before behind : List T) → IsStable (x ∷ xs) (before ++ x ∷ behind) → filter (alike x) before ≡ [] → filter (alike x) behind ≡ filter (alike x) xs → IsStable xs (before ++ behind)
  stable_rest x xs before behind stable none others z = by_test (alike z x) refl
    where
      by_test : (b : Bool) → alike z x ≡ b → filter (alike z) (before ++ behind) ≡ filter (alike z) xs
      by_test true is =
          let agree : (w : T) → alike z w ≡ alike x w = λ w. ap is_eq (sym (alike_right o (of.key x) (of.key z) (of.key w) (is_equal _ is))) in
          filter-append (alike z) before behind
          ∙ (λ t. (filter_agree (alike z) (alike x) agree before ∙ none) t ++ (filter_agree (alike z) (alike x) agree behind ∙ others ∙ sym (filter_agree (alike z) (alike x) agree xs)) t)
      by_test false is =
          filter-append (alike z) before behind
          ∙ (λ t. filter (alike z) before ++ sym (here_fails (alike z) x behind is) t)
          ∙ sym (filter-append (alike z) before (x ∷ behind))
          ∙ stable z ∙ here_fails (alike z) x xs is

  -- what a sort by the keys says
  pub stable_by : (xs ys : List T) → IsStableBy (λ x y. is_lt (cmp (of.key x) (of.key y))) xs ys → IsStable xs ys
  stable_by xs ys stable z =
      let agree : (w : T) → ties (λ x y. is_lt (cmp (of.key x) (of.key y))) z w ≡ alike z w = λ w. by_order w (cmp (of.key w) (of.key z)) refl in
      sym (filter_agree _ (alike z) agree ys) ∙ (stable z ∙ filter_agree _ (alike z) agree xs)
    where
      by_order : (w : T) (r : Ordering) → cmp (of.key w) (of.key z) ≡ r → ties (λ x y. is_lt (cmp (of.key x) (of.key y))) z w ≡ is_eq (cmp (of.key w) (of.key z))
      by_order w Less e = rw (back _ _ Less e, e) refl
      by_order w Equal e = rw (back _ _ Equal e, e) refl
      by_order w Greater e = rw (back _ _ Greater e, e) refl

  with_items-stable : (m xs ys : List T) → IsStable xs ys → with_items of cmp m ys ≡ with_items of cmp m xs
  with_items-stable m [] [] stable = refl
  with_items-stable m [] (y ∷ ys) stable = absurd (cc (sym (here_passes (alike y) y ys (itself y)) ∙ stable y))
  with_items-stable m (x ∷ xs) ys stable =
      let f = first_passing (alike x) ys x (filter (alike x) xs) (stable x ∙ here_passes (alike x) x xs (itself x)) in
      ap (with_items of cmp m) f.is ∙ sym (put_first m f.before f.behind x f.none)
      ∙ with_items-stable (with_item of cmp m x) xs (f.before ++ f.behind) (stable_rest x xs f.before f.behind (λ z. ap (filter (alike z)) (sym f.is) ∙ stable z) f.none f.others)

  pub ExtendsTo-stable : {old new : OrdMap T} (xs ys : List T) → IsStable xs ys → length ys ≡ length xs → ExtendsTo of cmp old ys new → ExtendsTo of cmp old xs new
  ExtendsTo-stable {old} xs ys stable long done = record {
    lists = done.lists ∙ with_items-stable (items old) xs ys stable;
    fits = done.fits;
    no_less_room = done.no_less_room;
    same_room = λ room. done.same_room (omega (arith, long, room));
    most = omega (arith, done.most, long);
  }
