-- Slots of items that were inserted one after another.
use Rattle.std.specs.Prelude.{◌≡◌, ℕ, false, List, [], ◌∷◌, ◌++◌, Option, Some, None, is_some, All, nat_eq}
use Rattle.std.specs.List.{AllByRecursion}
use Rattle.std.specs.Option.{option_to_list}
use Rattle.std.proofs.Common.{refl, sym, ap, ◌∙◌}
use Rattle.std.proofs.lemmas.Bool.{false≢true, eqb-true}
use Rattle.std.proofs.lemmas.List.Elements.{All-nil, All-head, All-tail, All-push}
use Rattle.iddqd_store.specs.Slots.{get, IsLive, Updates}
use Rattle.iddqd_store.specs.Slots.Found.{StandAt, items_at, contains}
use Rattle.iddqd_store.proofs.BagLemmas.Exchanges.{split}
use Rattle.iddqd_store.proofs.BagLemmas.Over.{IsDistinct-push, items_at-others, live-unchanged}
use Rattle.iddqd_store.proofs.BagLemmas.Sound.{IsDistinct-nil}
use Rattle.iddqd_store.proofs.SlotLemmas.Found.{items_at-push}

not_listed : (numbers : List ℕ) (slot : ℕ) → AllByRecursion (λ at. nat_eq slot at ≡ false) numbers → contains numbers slot ≡ false
not_listed [] slot others = refl
not_listed (at ∷ numbers) slot others = rw (others.0, not_listed numbers slot others.1) refl

module _ {T : Type 0} where
  pub StandAt-nil : (slots : List (Option T)) → StandAt slots [] []
  StandAt-nil slots = record { items = refl; live = All-nil (IsLive slots); apart = IsDistinct-nil nat_eq }

  module _ (old : List (Option T)) (slot : ℕ) (free : get old slot ≡ None) where
    -- a free slot is none of the live ones
    not_live : (numbers : List ℕ) → All (IsLive old) numbers → AllByRecursion (λ at. nat_eq slot at ≡ false) numbers
    not_live [] live = tt
    not_live (at ∷ numbers) live = (
      split (λ b. b ≡ false) (nat_eq slot at)
          (λ same. absurd (false≢true (sym (ap is_some free) ∙ ap (λ a. is_some (get old a)) (eqb-true slot at same) ∙ All-head (IsLive old) at numbers live)))
          (λ _. refl),
      not_live numbers (All-tail (IsLive old) at numbers live),
    )

  -- one more item was put into a slot that was free
  pub StandAt-push : (old new : List (Option T)) (numbers : List ℕ) (xs : List T) (slot : ℕ) (x : T) → get old slot ≡ None
      → Updates old new slot (Some x) → StandAt old numbers xs → StandAt new (numbers ++ slot ∷ []) (xs ++ x ∷ [])
  StandAt-push old new numbers xs slot x free updates stand =
      let others = not_live old slot free numbers stand.live in
      record {
        items =
            items_at-push new numbers slot
            ∙ ap (λ o. items_at new numbers ++ option_to_list o) updates.changed
            ∙ ap (λ l. l ++ x ∷ []) (items_at-others old new slot (Some x) numbers updates others ∙ stand.items);
        live = All-push (IsLive new) numbers slot (live-unchanged old new slot (Some x) numbers updates others stand.live) (rw updates.changed refl);
        apart = IsDistinct-push numbers slot stand.apart (not_listed numbers slot others);
      }
