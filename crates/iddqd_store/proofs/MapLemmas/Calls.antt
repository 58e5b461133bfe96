-- A closure that may be called at each item that is to come, and has been called at the next one.
use Rattle.std.specs.Prelude.{◌≡◌, ◌+◌, ℕ, List, Option, None, slice_set, drop}
use Rattle.std.specs.Borrow.{Bor}
use Rattle.std.specs.Fn.{Mut, CalledAt}
use Rattle.std.proofs.Common.{ap, sym, subst, ◌∙◌}
use Rattle.iddqd_store.specs.Map.{Map}
use Rattle.iddqd_store.specs.Map.Walk.{Passes, to_come}
use Rattle.iddqd_store.specs.Slots.{contents}
use Rattle.iddqd_store.specs.Slots.Next.{ComesNext}
use Rattle.iddqd_store.proofs.BagLemmas.Calling.{TakesEach, takes_others}
use Rattle.iddqd_store.proofs.SlotLemmas.Next.{same_behind}

module _ {F T R : Type 0} (g : Mut F (Bor T × Unit {0}) R) {x : T} {r : R} {f h : F} where
  -- the item was written
  pub takes_passed : {S : Type 0} {m new : Map T S} {from to : ℕ} {written : (T → T) → Map T S} (w : T → T) → new ≡ written w
      → Passes m from x written to → CalledAt g f x r h → TakesEach g f (to_come m from) → TakesEach g h (to_come new to)
  takes_passed {S} {m} {to = to} w is next called takes =
      subst (λ l. TakesEach g h l) (sym (ap (λ (n : Map T S). to_come n to) is ∙ next.behind w)) (takes_others g f _ x _ r h next.comes called takes)

  -- the item was removed
  pub takes_behind : {from at : ℕ} (slots : List (Option T)) → ComesNext slots from at x → CalledAt g f x r h
      → TakesEach g f (contents (drop from slots)) → TakesEach g h (contents (drop (at + 1) (slice_set slots at None)))
  takes_behind {at = at} slots next called takes =
      subst (λ l. TakesEach g h l) (sym (same_behind slots at)) (takes_others g f _ x _ r h next.rest called takes)
