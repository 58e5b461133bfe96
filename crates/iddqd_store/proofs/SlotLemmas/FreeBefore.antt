-- The slots before the first live one: which changes of the slots leave them free.
use Rattle.std.specs.Prelude.{◌≡◌, ℕ, zero, suc, ◌<◌, ◌≤◌, List, [], ◌∷◌, ◌++◌, map, length, Some, None, slice_get}
use Rattle.std.proofs.Common.{refl, ap, set, ◌∙◌, arith, length-set}
use Rattle.std.proofs.lemmas.List.{length_push, map-set, get_or-map, get_or-set_other}
use Rattle.std.proofs.lemmas.Option.{slice_get_within, get_or_from_slice_get}
use Rattle.iddqd_store.specs.declared.item_set.Slot.{Slot}
use Rattle.iddqd_store.specs.declared.item_set.Slot.TheVariants.{Free, Live}
use Rattle.iddqd_store.specs.Slots.{get}
use Rattle.iddqd_store.specs.Slots.Chain.{item_of, IsFreeBefore}

module _ {T : Type 0} where
  pub IsFreeBefore-start : (es : List (Slot T)) → IsFreeBefore es 0
  IsFreeBefore-start es = record { within = omega arith; free = λ at below. absurd (omega (arith, below)) }

  pub IsFreeBefore-less : (es : List (Slot T)) (lowest less : ℕ) → less ≤ lowest → IsFreeBefore es lowest → IsFreeBefore es less
  IsFreeBefore-less es lowest less h before =
      record { within = omega (arith, h, before.within); free = λ at below. before.free at (omega (arith, h, below)) }

  -- no live slot is before it
  pub live_behind : (es : List (Slot T)) (lowest at : ℕ) (x : T) → IsFreeBefore es lowest → slice_get es at ≡ Some (Live x) → lowest ≤ at
  live_behind es lowest at x before found =
      let here : get (map item_of es) at ≡ Some x =
      get_or-map item_of es at (Free 0) None (slice_get_within es at _ found) ∙ ap item_of (get_or_from_slice_get es at _ (Free 0) found) in
      grind (arith, before.free)

  -- a write from there on
  pub IsFreeBefore-set : {es : List (Slot T)} {lowest at : ℕ} (e : Slot T) → lowest ≤ at → IsFreeBefore es lowest → IsFreeBefore (set es at e) lowest
  IsFreeBefore-set {es = es} {lowest = lowest} {at = at} e behind before = record {
    within = omega (arith, before.within, length-set es at e);
    free = λ n below. rw map-set (get_or-set_other (map item_of es) at n (item_of e) None (λ same. omega (arith, behind, below, same)) ∙ before.free n below);
  }

  get_before : (es : List (Slot T)) (e : Slot T) (at : ℕ) → at < length es → get (map item_of (es ++ e ∷ [])) at ≡ get (map item_of es) at
  get_before [] e at within = absurd (omega (arith, within))
  get_before (s ∷ es) e zero within = refl
  get_before (s ∷ es) e (suc at) within = get_before es e at (omega (arith, within))

  pub IsFreeBefore-push : (es : List (Slot T)) (lowest : ℕ) (e : Slot T) → IsFreeBefore es lowest → IsFreeBefore (es ++ e ∷ []) lowest
  IsFreeBefore-push es lowest e before = record {
    within = omega (arith, before.within, length_push es e);
    free = λ at below. get_before es e at (omega (arith, below, before.within)) ∙ before.free at below;
  }
