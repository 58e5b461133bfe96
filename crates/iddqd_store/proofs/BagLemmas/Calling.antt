-- A closure that may be called at each item of a list in turn, call by call.
use Rattle.std.specs.Prelude.{◌≡◌, List, [], ◌∷◌, ⊤}
use Rattle.std.specs.Borrow.{Bor}
use Rattle.std.specs.Fn.{Mut, TakesAt, CalledAt}
use Rattle.std.proofs.Common.{refl, ap, subst}
use Rattle.iddqd_store.specs.Bag.Calling.{TakesInTurn}

module _ {F T R : Type 0} (g : Mut F (Bor T × Unit {0}) R) where
  -- The closure may be called at the first item, and after each such call at the others. This is what a loop keeps.
  abbrev pub TakesEach : F → List T → Type 0
  TakesEach f [] = ⊤
  TakesEach f (x ∷ xs) = TakesAt g f x × ((r : R) (h : F) → CalledAt g f x r h → TakesEach h xs)

  pub TakesEach-in_turn : (f : F) (xs : List T) → TakesInTurn g f xs → TakesEach f xs
  TakesEach-in_turn f [] takes = tt
  TakesEach-in_turn f (x ∷ xs) takes =
      (takes [] x xs f refl refl, λ r h called. TakesEach-in_turn h xs (λ before y after q is reached. takes (x ∷ before) y after q (ap (λ l. x ∷ l) is) (r, h, called, reached)))

  -- at the first item of a list
  pub takes_first : (f : F) (list : List T) (x : T) (xs : List T) → list ≡ x ∷ xs → TakesEach f list → TakesAt g f x
  takes_first f list x xs is takes = (subst (λ l. TakesEach f l) is takes).0

  -- and, once it was called there, at the others
  pub takes_others : (f : F) (list : List T) (x : T) (xs : List T) (r : R) (h : F) → list ≡ x ∷ xs → CalledAt g f x r h → TakesEach f list → TakesEach h xs
  takes_others f list x xs r h is called takes = (subst (λ l. TakesEach f l) is takes).1 r h called
