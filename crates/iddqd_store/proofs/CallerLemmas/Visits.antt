-- Visits of the items of a list, one by one.
use Rattle.std.proofs.Common.{◌≡◌, List, [], ◌∷◌, ◌++◌, refl, sym, ap, subst, ◌∙◌, append_assoc, append-nil}
use Rattle.iddqd_store.specs.Collection.{VisitsEach}

module _ {T Target : Type 0} (visits : T → Target → Target → Type 0) where
  then_one : (xs : List T) (x : T) (old mid new : Target) → VisitsEach visits xs old mid → visits x mid new → VisitsEach visits (xs ++ x ∷ []) old new
  then_one [] x old mid new h one = (new, subst (λ (s : Target). visits x s new) h one, refl)
  then_one (y ∷ ys) x old mid new h one = (h.0, h.1, then_one ys x h.0 mid new h.2 one)

  -- of all, those before `rest` were visited
  abbrev pub HasVisited : List T → List T → Target → Target → Type 0
  HasVisited all rest old new = (done : List T) × (all ≡ done ++ rest) × VisitsEach visits done old new

  pub HasVisited-none : (all rest : List T) (old : Target) → rest ≡ all → HasVisited all rest old old
  HasVisited-none all rest old same = ([], sym same, refl)

  pub HasVisited-more : (all rest left : List T) (x : T) (old mid new : Target) → HasVisited all rest old mid → rest ≡ x ∷ left → visits x mid new → HasVisited all left old new
  HasVisited-more all rest left x old mid new h step one =
      (h.0 ++ x ∷ [], h.1 ∙ ap (λ (ys : List T). h.0 ++ ys) step ∙ sym (append_assoc h.0 (x ∷ []) left), then_one h.0 x old mid new h.2 one)

  pub HasVisited-all : (all rest : List T) (old new : Target) → HasVisited all rest old new → rest ≡ [] → VisitsEach visits all old new
  HasVisited-all all rest old new h none =
      subst (λ (ys : List T). VisitsEach visits ys old new) (sym (h.1 ∙ ap (λ (ys : List T). h.0 ++ ys) none ∙ append-nil h.0)) h.2
