-- Lemmas by which a closure may be called at the items of a map, from what a caller knows of the closure or of the
-- items.
use denote.Param.Always.{always_mut, mut_next}
use Rattle.std.specs.Prelude.{List, [], ◌∷◌, ◌++◌, All, ⊤}
use Rattle.std.specs.Borrow.{Bor}
use Rattle.std.specs.Fn.{Mut, TakesAt, CalledAt}
use Rattle.std.proofs.Common.{refl, subst}
use Rattle.std.proofs.lemmas.List.Elements.{All-head, All-tail}
use Rattle.std.proofs.lemmas.List.Sorted.{All-permutation}
use Rattle.iddqd_store.specs.Bag.Calling.{Reaches, TakesInAnyOrder, TakesInTurn}

module _ {F T R : Type 0} (g : Mut F (Bor T × Unit {0}) R) where
  reaches_always : (f q : F) → always_mut g f → (xs : List T) → Reaches g f xs q → always_mut g q
  reaches_always f q always [] is = subst (always_mut g) is always
  reaches_always f q always (x ∷ xs) (r, h, called, reached) = reaches_always h q (mut_next g f (called.shown, tt) r h h called.called refl always) xs reached

  -- A closure that may always be called may be called at each item of a list in turn, ..
  pub takes_in_turn_always : (f : F) → always_mut g f → (xs : List T) → TakesInTurn g f xs
  takes_in_turn_always f always xs before x after q is reached = λ y e. ((reaches_always f q always before reached).at ((y, tt) ∷ [])).0

  -- .. and at the items of a bag in any order.
  pub takes_always : (f : F) → always_mut g f → (bag : List T) → TakesInAnyOrder g f bag
  takes_always f always bag listed same = takes_in_turn_always f always listed

  -- A closure that may be called at each item with a property, in each state with another that calls keep, may be
  -- called at each item of a list in turn, or of a bag in any order, if all have the first property.
  pub takes_in_turn_by_state : (Is : F → Type 0) (P : T → Type 0) → ((q : F) (x : T) → Is q → P x → TakesAt g q x)
      → ((q : F) (x : T) (r : R) (h : F) → Is q → P x → CalledAt g q x r h → Is h) → (f : F) → Is f → (list : List T)
      → All P list → TakesInTurn g f list
  takes_in_turn_by_state Is P takes keeps f is list all before x after q at reached = reach f is before (subst (All P) at all) reached
    where
      reach : (f : F) → Is f → (before : List T) → All P (before ++ x ∷ after) → Reaches g f before q → TakesAt g q x
      reach f is [] all there = takes q x (subst Is there is) (All-head P x after all)
      reach f is (y ∷ before) all (r, h, called, reached) =
          reach h (keeps f y r h is (All-head P y (before ++ x ∷ after) all) called) before (All-tail P y (before ++ x ∷ after) all) reached

  pub takes_by_state : (Is : F → Type 0) (P : T → Type 0) → ((q : F) (x : T) → Is q → P x → TakesAt g q x)
      → ((q : F) (x : T) (r : R) (h : F) → Is q → P x → CalledAt g q x r h → Is h) → (f : F) → Is f → (bag : List T) → All P bag
      → TakesInAnyOrder g f bag
  takes_by_state Is P takes keeps f is bag all listed same =
      takes_in_turn_by_state Is P takes keeps f is listed (All-permutation P bag listed same all)

  -- If no call depends on the closure's state, this is enough: the closure may be called at each item with a property,
  -- and all items have it.
  pub takes_in_turn_by_items : (P : T → Type 0) → ((q : F) (x : T) → P x → TakesAt g q x) → (f : F) (list : List T) → All P list → TakesInTurn g f list
  takes_in_turn_by_items P takes f list all = takes_in_turn_by_state (λ q. ⊤) P (λ q x is p. takes q x p) (λ q x r h is p called. tt) f tt list all

  pub takes_by_items : (P : T → Type 0) → ((q : F) (x : T) → P x → TakesAt g q x) → (f : F) (bag : List T) → All P bag → TakesInAnyOrder g f bag
  takes_by_items P takes f bag all listed same = takes_in_turn_by_items P takes f listed (All-permutation P bag listed same all)
