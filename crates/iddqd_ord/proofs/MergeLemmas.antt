-- Items that move from one list in order into another one.
use Rattle.std.proofs.Common.{◌≡◌, suc, Bool, true, false, List, [], ◌∷◌, ◌++◌, refl, sym, subst, arith}
use Rattle.std.specs.Prelude.{IsPermutation}
use Rattle.std.specs.List.{list_any}
use Rattle.std.specs.declared.cmp.Ordering.{Ordering}
use Rattle.std.proofs.lemmas.Bool.{false≢true}
use Rattle.std.proofs.lemmas.List.Sorted.{IsPermutation-sym, IsPermutation-trans, IsPermutation-middle, IsPermutation-append, IsPermutation-refl}
use Rattle.iddqd_ord.specs.Items.{has_key_of, with_item}
use Rattle.iddqd_ord.specs.Ordered.{IsAscending}
use Rattle.iddqd_ord.specs.declared.item.IdOrdItem as item
use Rattle.iddqd_ord.proofs.InsertLemmas.{IsPermutation-with_item}

module _ {T Key : Type 0} (of : item.Ghosts T Key) (cmp : Key → Key → Ordering) where
  pub ascending-tail : (x : T) (ys : List T) → IsAscending cmp of.key (x ∷ ys) → IsAscending cmp of.key ys
  ascending-tail x ys up i j d lt in_range = up (suc i) (suc j) d (omega arith) (omega arith)

  pub IsPermutation-moved : (x : T) (ys held new all : List T) → IsPermutation all (held ++ x ∷ ys) → list_any (has_key_of of cmp x) held ≡ false → new ≡ with_item of cmp held x → IsPermutation all (new ++ ys)
  IsPermutation-moved x ys held new all same free lists =
      let made : IsPermutation (new ++ ys) ((x ∷ held) ++ ys) = IsPermutation-append new (x ∷ held) ys ys (subst (λ (l : List T). IsPermutation l (x ∷ held)) (sym lists) (IsPermutation-with_item of cmp x held free)) (IsPermutation-refl ys) in
      IsPermutation-trans _ _ _ same (IsPermutation-trans _ _ _ (IsPermutation-middle held x ys) (IsPermutation-sym _ _ made))

module _ {T : Type 0} where
  -- a key that none of the first items has
  pub none_before : (p : T → Bool) (xs ys : List T) → list_any p xs ≡ false → list_any p (xs ++ ys) ≡ list_any p ys
  none_before p [] ys none = refl
  none_before p (x ∷ xs) ys none = by_test (p x) refl (λ e. none_before p xs ys e)
    where
      by_test : (b : Bool) → p x ≡ b → (list_any p xs ≡ false → list_any p (xs ++ ys) ≡ list_any p ys) → list_any p ((x ∷ xs) ++ ys) ≡ list_any p ys
      by_test true is more = absurd (false≢true (sym (rw is at none)))
      by_test false is more = rw is (more (rw is at none))
