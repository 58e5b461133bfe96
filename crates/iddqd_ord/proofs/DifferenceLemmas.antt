-- Two lists in ascending order, of which one walk pairs off the items.
use Rattle.std.proofs.Common.{◌≡◌, ℕ, suc, ◌<◌, Bool, true, false, ◌||◌, not, cond, List, [], ◌∷◌, ◌++◌, Option, Some, None, Bor, get_or, length, map, refl, sym, ap, ◌∙◌, arith}
use Rattle.std.specs.Prelude.{All}
use Rattle.std.specs.Iterator.{YieldsFirstRef}
use Rattle.std.specs.List.{AllByRecursion, list_any}
use Rattle.std.specs.Cmp.{IsTotalOrder}
use Rattle.std.specs.Option.{option_copied, option_to_list}
use Rattle.std.specs.Ordering.{is_eq, ordering_reverse}
use Rattle.std.specs.declared.cmp.Ordering.{Ordering}
use Rattle.std.specs.declared.cmp.Ordering.TheVariants.{Less, Equal, Greater}
use Rattle.std.proofs.lemmas.List.{append_assoc, append-nil, map-append}
use Rattle.std.proofs.lemmas.List.Elements.{All-append, All-cons, All-nil, filter-append}
use Rattle.iddqd_store.specs.Differing.{IsDifference, paired, unpaired}
use Rattle.iddqd_store.specs.declared.differing.Difference.{Difference}
use Rattle.iddqd_store.specs.declared.differing.ItemPair.{ItemPair}
use Rattle.iddqd_store.proofs.BagLemmas.Differing.{IsPermutation-unpaired}
use Rattle.iddqd_store.proofs.BagLemmas.Sound.{each_weaker}
use Rattle.iddqd_ord.specs.Items.{has_key_of}
use Rattle.iddqd_ord.specs.Ordered.{IsAscending}
use Rattle.iddqd_ord.specs.declared.item.IdOrdItem as item
use Rattle.iddqd_ord.proofs.MergeLemmas.{ascending-tail, none_before}

-- the list that is left, and the item that was taken from it
pub taken : {T : Type 0} (old new : List T) (o : Option (Bor T)) → YieldsFirstRef (λ (rest : List T). rest) old o new → old ≡ option_to_list (option_copied o) ++ new
taken old new None yields = yields.0 ∙ sym yields.1
taken old new (Some x) yields = yields

-- if no item was taken, nothing is left
pub ended : {T : Type 0} (old new : List T) (o : Option (Bor T)) → YieldsFirstRef (λ (rest : List T). rest) old o new → o ≡ None → new ≡ []
ended old new None yields is = yields.1
ended old new (Some x) yields is = absurd (cc is)

module _ {T : Type 0} where
  each_push : (P : T → Type 0) (xs : List T) (x : T) → AllByRecursion P xs → P x → AllByRecursion P (xs ++ x ∷ [])
  each_push P [] x all one = (one, tt)
  each_push P (y ∷ ys) x all one = (all.0, each_push P ys x all.1 one)

  none_any : (p : T → Bool) (xs : List T) → AllByRecursion (λ y. p y ≡ false) xs → list_any p xs ≡ false
  none_any p [] none = refl
  none_any p (x ∷ xs) none = rw none.0 (none_any p xs none.1)

  any_there : (p : T → Bool) (xs : List T) (y : T) (ys : List T) → p y ≡ true → list_any p (xs ++ y ∷ ys) ≡ true
  any_there p [] y ys is = rw is refl
  any_there p (x ∷ xs) y ys is = by_head (p x) (any_there p xs y ys is)
    where
      by_head : (b : Bool) → list_any p (xs ++ y ∷ ys) ≡ true → (b || list_any p (xs ++ y ∷ ys)) ≡ true
      by_head true rest = refl
      by_head false rest = rest

module _ {T Key : Type 0} (of : item.Ghosts T Key) (cmp : Key → Key → Ordering) where
  -- the item has a lower key than each of the list
  abbrev pub IsBelow : T → List T → Type 0
  IsBelow x ys = AllByRecursion (λ y. cmp (of.key x) (of.key y) ≡ Less) ys

  -- Of one list the items of `passed` were paired off with those of the other list, and `rest` is left of it. `alone` have no
  -- partner there, and `shared` have one.
  pub record Passed (own other passed rest other_rest alone shared : List T) : Type 0 where
    pub own_is : own ≡ passed ++ rest
    pub rises : IsAscending cmp of.key rest
    pub below : AllByRecursion (λ d. IsBelow d other_rest) passed
    pub alone_are : alone ≡ unpaired (has_key_of of cmp) passed other
    pub shared_are : shared ≡ paired (has_key_of of cmp) passed other

  below_listed : (x : T) (ys : List T) → ((j : ℕ) (d : T) → j < length ys → cmp (of.key x) (of.key (get_or ys j d)) ≡ Less) → IsBelow x ys
  below_listed x [] each = tt
  below_listed x (y ∷ ys) each = (each 0 y (omega arith), below_listed x ys (λ j d lt. each (suc j) d (omega (arith, lt))))

  -- the first of a list in order is below the others
  below_first : (x : T) (ys : List T) → IsAscending cmp of.key (x ∷ ys) → IsBelow x ys
  below_first x ys rises = below_listed x ys (λ j d lt. rises 0 (suc j) d (omega arith) (omega (arith, lt)))

  pub Passed-none : (own other : List T) → IsAscending cmp of.key own → Passed own other [] own other [] []
  Passed-none own other rises = record { own_is = refl; rises = rises; below = tt; alone_are = refl; shared_are = refl }

  -- the other list gets shorter
  other_less : {own other passed rest alone shared : List T} {y : T} {ys : List T} → Passed own other passed rest (y ∷ ys) alone shared → Passed own other passed rest ys alone shared
  other_less h = record { own_is = h.own_is; rises = h.rises; below = each_weaker _ _ (λ d all. all.1) _ h.below; alone_are = h.alone_are; shared_are = h.shared_are }

  module _ (o : IsTotalOrder cmp) where
    unlike : (x y : T) → cmp (of.key x) (of.key y) ≡ Less → has_key_of of cmp x y ≡ false
    unlike x y less = ap is_eq (o.antisymm (of.key y) (of.key x) ∙ ap ordering_reverse less)

    below_too : (x y : T) (zs : List T) → cmp (of.key x) (of.key y) ≡ Equal → IsBelow y zs → IsBelow x zs
    below_too x y zs same below = each_weaker _ _ (λ z less. o.congr (of.key x) (of.key y) (of.key z) same ∙ less) zs below

    -- what is below the first of a list in order is below each
    below_all : (x y : T) (ys : List T) → cmp (of.key x) (of.key y) ≡ Less → IsAscending cmp of.key (y ∷ ys) → IsBelow x (y ∷ ys)
    below_all x y ys less rises = (less, each_weaker _ _ (λ z on. o.trans (of.key x) (of.key y) (of.key z) less on) ys (below_first y ys rises))

    turned : (x y : T) (is : Ordering) → cmp (of.key x) (of.key y) ≡ is → cmp (of.key y) (of.key x) ≡ ordering_reverse is
    turned x y is same = o.antisymm (of.key y) (of.key x) ∙ ap ordering_reverse same

    -- an item below what is left of the other list has no partner there
    no_partner : {own other rest other_passed other_rest alone shared : List T} (x : T) → Passed other own other_passed other_rest (x ∷ rest) alone shared
        → IsBelow x other_rest → list_any (has_key_of of cmp x) other ≡ false
    no_partner {other_passed = other_passed} {other_rest = other_rest} x h below =
        let before : list_any (has_key_of of cmp x) other_passed ≡ false = none_any _ _ (each_weaker _ _ (λ d all. ap is_eq all.0) _ h.below) in
        let after : list_any (has_key_of of cmp x) other_rest ≡ false = none_any _ _ (each_weaker _ _ (λ y less. unlike x y less) _ below) in
        ap (list_any (has_key_of of cmp x)) h.own_is ∙ none_before (has_key_of of cmp x) other_passed other_rest before ∙ after

    -- one more item is passed, which has no partner
    passed_alone : {own other passed rest other_rest alone shared more : List T} (x : T) → Passed own other passed (x ∷ rest) other_rest alone shared
        → list_any (has_key_of of cmp x) other ≡ false → IsBelow x other_rest → more ≡ alone ++ x ∷ [] → Passed own other (passed ++ x ∷ []) rest other_rest more shared
    passed_alone {other = other} {passed = passed} {rest = rest} x h none below is = record {
      own_is = h.own_is ∙ sym (append_assoc passed (x ∷ []) rest);
      rises = ascending-tail of cmp x rest h.rises;
      below = each_push _ passed x h.below below;
      alone_are = is ∙ ap (λ l. l ++ x ∷ []) h.alone_are ∙ sym (filter-append _ passed (x ∷ []) ∙ ap (λ b. unpaired (has_key_of of cmp) passed other ++ cond (not b) (x ∷ []) []) none);
      shared_are = h.shared_are ∙ sym (filter-append _ passed (x ∷ []) ∙ ap (λ b. paired (has_key_of of cmp) passed other ++ cond b (x ∷ []) []) none ∙ append-nil _);
    }

    -- one more item is passed, which has a partner
    passed_shared : {own other passed rest other_rest alone shared more : List T} (x : T) → Passed own other passed (x ∷ rest) other_rest alone shared
        → list_any (has_key_of of cmp x) other ≡ true → IsBelow x other_rest → more ≡ shared ++ x ∷ [] → Passed own other (passed ++ x ∷ []) rest other_rest alone more
    passed_shared {other = other} {passed = passed} {rest = rest} x h some below is = record {
      own_is = h.own_is ∙ sym (append_assoc passed (x ∷ []) rest);
      rises = ascending-tail of cmp x rest h.rises;
      below = each_push _ passed x h.below below;
      alone_are = h.alone_are ∙ sym (filter-append _ passed (x ∷ []) ∙ ap (λ b. unpaired (has_key_of of cmp) passed other ++ cond (not b) (x ∷ []) []) some ∙ append-nil _);
      shared_are = is ∙ ap (λ l. l ++ x ∷ []) h.shared_are ∙ sym (filter-append _ passed (x ∷ []) ∙ ap (λ b. paired (has_key_of of cmp) passed other ++ cond b (x ∷ []) []) some);
    }

  -- The walk has `xs` of the old list and `ys` of the new one to go. What it found so far is removed, added or in pairs.
  pub record Merged (old new xs ys removed added : List T) (pairs : List (ItemPair T)) : Type 0 where
    pub passed_old : List T
    pub passed_new : List T
    pub olds : Passed old new passed_old xs ys removed (map (λ p. p.before.now) pairs)
    pub news : Passed new old passed_new ys xs added (map (λ p. p.after.now) pairs)
    pub agree_in_pairs : All (λ p. has_key_of of cmp p.before.now p.after.now ≡ true) pairs

  pub Merged-none : (old new : List T) → IsAscending cmp of.key old → IsAscending cmp of.key new → Merged old new old new [] [] []
  Merged-none old new rises_old rises_new = record {
    passed_old = [];
    passed_new = [];
    olds = Passed-none old new rises_old;
    news = Passed-none new old rises_new;
    agree_in_pairs = All-nil (λ p. has_key_of of cmp p.before.now p.after.now ≡ true);
  }

  module _ (o : IsTotalOrder cmp) {old new removed added : List T} {pairs : List (ItemPair T)} where
    removed_next : {xs ys more : List T} (x : T) → Merged old new (x ∷ xs) ys removed added pairs → IsBelow x ys → more ≡ removed ++ x ∷ []
        → Merged old new xs ys more added pairs
    removed_next x h below is = record {
      passed_old = h.passed_old ++ x ∷ [];
      passed_new = h.passed_new;
      olds = passed_alone o x h.olds (no_partner o x h.news below) below is;
      news = other_less h.news;
      agree_in_pairs = h.agree_in_pairs;
    }

    added_next : {xs ys more : List T} (y : T) → Merged old new xs (y ∷ ys) removed added pairs → IsBelow y xs → more ≡ added ++ y ∷ []
        → Merged old new xs ys removed more pairs
    added_next y h below is = record {
      passed_old = h.passed_old;
      passed_new = h.passed_new ++ y ∷ [];
      olds = other_less h.olds;
      news = passed_alone o y h.news (no_partner o y h.olds below) below is;
      agree_in_pairs = h.agree_in_pairs;
    }

    -- the next old item is lower than the next new one
    pub removed_lower : {xs ys more : List T} (x y : T) → Merged old new (x ∷ xs) (y ∷ ys) removed added pairs → cmp (of.key x) (of.key y) ≡ Less
        → more ≡ removed ++ x ∷ [] → Merged old new xs (y ∷ ys) more added pairs
    removed_lower {ys = ys} x y h less is = removed_next x h (below_all o x y ys less h.news.rises) is

    -- there are no more new ones
    pub removed_last : {xs more : List T} (x : T) → Merged old new (x ∷ xs) [] removed added pairs → more ≡ removed ++ x ∷ [] → Merged old new xs [] more added pairs
    removed_last x h is = removed_next x h tt is

    -- the next new item is lower than the next old one
    pub added_lower : {xs ys more : List T} (x y : T) → Merged old new (x ∷ xs) (y ∷ ys) removed added pairs → cmp (of.key x) (of.key y) ≡ Greater
        → more ≡ added ++ y ∷ [] → Merged old new (x ∷ xs) ys removed more pairs
    added_lower {xs = xs} x y h greater is = added_next y h (below_all o y x xs (turned o x y Greater greater) h.olds.rises) is

    -- there are no more old ones
    pub added_last : {ys more : List T} (y : T) → Merged old new [] (y ∷ ys) removed added pairs → more ≡ added ++ y ∷ [] → Merged old new [] ys removed more pairs
    added_last y h is = added_next y h tt is

    -- the next items have equal keys
    pub pair_next : {xs ys : List T} {more : List (ItemPair T)} (p : ItemPair T) → Merged old new (p.before.now ∷ xs) (p.after.now ∷ ys) removed added pairs
        → cmp (of.key p.before.now) (of.key p.after.now) ≡ Equal → more ≡ pairs ++ p ∷ [] → Merged old new xs ys removed added more
    pair_next {xs = xs} {ys = ys} p h same is =
        let x : T = p.before.now in
        let y : T = p.after.now in
        let back = turned o x y Equal same in
        let in_new : list_any (has_key_of of cmp x) new ≡ true = ap (list_any (has_key_of of cmp x)) h.news.own_is ∙ any_there (has_key_of of cmp x) h.passed_new y ys (ap is_eq back) in
        let in_old : list_any (has_key_of of cmp y) old ≡ true = ap (list_any (has_key_of of cmp y)) h.olds.own_is ∙ any_there (has_key_of of cmp y) h.passed_old x xs (ap is_eq same) in
        record {
          passed_old = h.passed_old ++ x ∷ [];
          passed_new = h.passed_new ++ y ∷ [];
          olds = passed_shared o x (other_less h.olds) in_new (below_too o x y ys same (below_first y ys h.news.rises)) (rw (is, map-append) refl);
          news = passed_shared o y (other_less h.news) in_old (below_too o y x xs back (below_first x xs h.olds.rises)) (rw (is, map-append) refl);
          agree_in_pairs = rw is (All-append (λ p. has_key_of of cmp p.before.now p.after.now ≡ true) pairs (p ∷ []) h.agree_in_pairs
              (All-cons (λ p. has_key_of of cmp p.before.now p.after.now ≡ true) p [] (ap is_eq back) (All-nil (λ p. has_key_of of cmp p.before.now p.after.now ≡ true))));
        }

  -- one list to its end
  pub passed_whole : {own other passed other_rest alone shared : List T} → Passed own other passed [] other_rest alone shared
      → (alone ≡ unpaired (has_key_of of cmp) own other) × (shared ≡ paired (has_key_of of cmp) own other)
  passed_whole {own = own} {other = other} {passed = passed} h =
      let whole : passed ≡ own = sym (h.own_is ∙ append-nil passed) in
      (h.alone_are ∙ ap (λ l. unpaired (has_key_of of cmp) l other) whole, h.shared_are ∙ ap (λ l. paired (has_key_of of cmp) l other) whole)

  -- both lists to their ends
  pub differs : (old new : List T) (difference : Difference T)
      → Merged old new [] [] (map (λ x. x.now) difference.removed.items) (map (λ x. x.now) difference.added.items) difference.common.items
      → IsDifference (has_key_of of cmp) old new difference × (map (λ p. p.after.now) difference.common.items ≡ paired (has_key_of of cmp) new old)
  differs old new difference h =
      let olds = passed_whole h.olds in
      let news = passed_whole h.news in (
        record {
          added = news.0;
          removed = olds.0;
          agree_in_pairs = h.agree_in_pairs;
          before = olds.1;
          old_items = rw (olds.0, olds.1) (IsPermutation-unpaired (has_key_of of cmp) old new);
          new_items = rw (news.0, news.1) (IsPermutation-unpaired (has_key_of of cmp) new old);
        },
        news.1,
      )
