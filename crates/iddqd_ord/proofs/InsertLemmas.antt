-- Items with new keys that are put into a list.
use Rattle.std.proofs.Common.{◌≡◌, false, List, [], ◌∷◌, ◌++◌, refl, sym, subst}
use Rattle.std.specs.Prelude.{filter, IsPermutation}
use Rattle.std.specs.List.{list_any}
use Rattle.std.specs.Ordering.{is_lt, is_gt}
use Rattle.std.specs.declared.cmp.Ordering.{Ordering}
use Rattle.std.specs.declared.cmp.Ordering.TheVariants.{Less, Equal, Greater}
use Rattle.std.proofs.lemmas.Bool.{false≢true}
use Rattle.std.proofs.lemmas.List.Sorted.{IsPermutation-refl, IsPermutation-sym, IsPermutation-trans, IsPermutation-cons, IsPermutation-middle, IsPermutation-push_more}
use Rattle.iddqd_ord.specs.Items.{has_key_of, with_item}
use Rattle.iddqd_ord.specs.declared.item.IdOrdItem as item

module _ {T Key : Type 0} (of : item.Ghosts T Key) (cmp : Key → Key → Ordering) (x : T) where
  -- where no item has the key, each is a lower or a higher one
  sides : (xs : List T) → list_any (has_key_of of cmp x) xs ≡ false → IsPermutation (filter (λ y. is_lt (cmp (of.key y) (of.key x))) xs ++ filter (λ y. is_gt (cmp (of.key y) (of.key x))) xs) xs
  sides [] free = IsPermutation-refl []
  sides (y ∷ ys) free = by_order (cmp (of.key y) (of.key x)) refl (λ e. sides ys e)
    where
      by_order : (o : Ordering) → cmp (of.key y) (of.key x) ≡ o
          → (list_any (has_key_of of cmp x) ys ≡ false → IsPermutation (filter (λ y. is_lt (cmp (of.key y) (of.key x))) ys ++ filter (λ y. is_gt (cmp (of.key y) (of.key x))) ys) ys)
          → IsPermutation (filter (λ y. is_lt (cmp (of.key y) (of.key x))) (y ∷ ys) ++ filter (λ y. is_gt (cmp (of.key y) (of.key x))) (y ∷ ys)) (y ∷ ys)
      by_order Less is more = rw is (IsPermutation-cons y _ _ (more (rw is at free)))
      by_order Equal is more = absurd (false≢true (sym (rw is at free)))
      by_order Greater is more = rw is (IsPermutation-trans _ _ _ (IsPermutation-middle (filter (λ y. is_lt (cmp (of.key y) (of.key x))) ys) y (filter (λ y. is_gt (cmp (of.key y) (of.key x))) ys)) (IsPermutation-cons y _ _ (more (rw is at free))))

  pub IsPermutation-with_item : (xs : List T) → list_any (has_key_of of cmp x) xs ≡ false → IsPermutation (with_item of cmp xs x) (x ∷ xs)
  IsPermutation-with_item xs free =
      IsPermutation-trans _ _ _ (IsPermutation-middle (filter (λ y. is_lt (cmp (of.key y) (of.key x))) xs) x (filter (λ y. is_gt (cmp (of.key y) (of.key x))) xs)) (IsPermutation-cons x _ _ (sides xs free))

  -- one more item was added to those of a list
  pub IsPermutation-added : (now new xs : List T) → IsPermutation now xs → list_any (has_key_of of cmp x) now ≡ false → new ≡ with_item of cmp now x → IsPermutation new (xs ++ x ∷ [])
  IsPermutation-added now new xs same free lists =
      let made : IsPermutation (x ∷ now) new = subst (λ (l : List T). IsPermutation (x ∷ now) l) (sym lists) (IsPermutation-sym _ _ (IsPermutation-with_item now free)) in
      IsPermutation-sym _ _ (IsPermutation-push_more xs now new x (IsPermutation-sym _ _ same) made)
