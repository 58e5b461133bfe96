-- The item that is written in its slot.
use Rattle.std.specs.Prelude.{◌≡◌, ℕ, zero, suc, Bool, true, List, [], ◌∷◌, Option, Some, None, IfSome, IsSome, IsPermutation, slice_set}
use Rattle.std.specs.Option.{option_and_then}
use Rattle.std.proofs.Common.{refl}
use Rattle.std.proofs.lemmas.List.Sorted.{IsPermutation-sym}
use Rattle.iddqd_store.specs.Bag.{Ranks, AreLawful, IsSound, agrees, swap}
use Rattle.iddqd_store.specs.Map.{Map, bag}
use Rattle.iddqd_store.specs.Map.Written.{map_with, map_with_if}
use Rattle.iddqd_store.specs.Rank.Keys.{AreKeyTests}
use Rattle.iddqd_store.specs.Slots.{get, IsLive}
use Rattle.iddqd_store.specs.Slots.Kept.{KeepsKeys}
use Rattle.iddqd_store.proofs.BagLemmas.Sound.{IsSound-IsPermutation}
use Rattle.iddqd_store.proofs.BagLemmas.Theory.{IsSound-swap}
use Rattle.iddqd_store.proofs.SlotLemmas.Kept.{FindsAt, finds_still, kept-same, kept-set}

pub item_written : {T S : Type 0} (m : Map T S) (at : ℕ) (f : T → T) (x : T) → get m.slots at ≡ Some x → get (map_with m at f).slots at ≡ Some (f x)
item_written m at f x is = rw is (set_there m.slots at (f x) x is)
  where
    set_there : {T : Type 0} (slots : List (Option T)) (at : ℕ) (y x : T) → get slots at ≡ Some x → get (slice_set slots at (Some y)) at ≡ Some y
    set_there [] zero y x is = absurd (cc is)
    set_there [] (suc at) y x is = absurd (cc is)
    set_there (o ∷ slots) zero y x is = refl
    set_there (o ∷ slots) (suc at) y x is = set_there slots at y x is

pub if_some : {X : Type 0} {P : X → Type 0} (o : Option X) → ((x : X) → o ≡ Some x → P x) → IfSome o P
if_some None h = tt
if_some (Some x) h = h x refl

-- An entry still finds what its keys name after a write to an item that keeps its keys.
module _ {T S : Type 0} (agree : T → T → Bool) (ranks : Ranks T) (laws : AreLawful (agree ∷ ranks)) (tests : List (T → Bool))
    (keys : AreKeyTests (agree ∷ ranks) tests) (m : Map T S) (at : Option ℕ) (found : List (Option ℕ)) where
  pub finds_written : (slot : Option ℕ) (f : T → T) → ((x : T) → agrees (agree ∷ ranks) x (f x) ≡ true) → IfSome slot (IsLive m.slots)
      → IfSome slot (λ slot. IsSound (agree ∷ ranks) (bag m))
      → ((x : T) → option_and_then (get m.slots) slot ≡ Some x → IsPermutation (bag (map_with_if m slot f)) (swap (agree ∷ ranks) (bag m) x (f x)))
      → FindsAt tests m.slots (at ∷ found) → FindsAt tests (map_with_if m slot f).slots (at ∷ found)
  finds_written None f same live sound swaps finds = finds
  finds_written (Some slot) f same live sound swaps finds = by_slot (get m.slots slot) refl live
    where
      by_slot : (o : Option T) → get m.slots slot ≡ o → IsSome o → FindsAt tests (map_with m slot f).slots (at ∷ found)
      by_slot None there some = absurd (cc)
      by_slot (Some x) there some =
          let kept : KeepsKeys (agrees (agree ∷ ranks)) m.slots (map_with m slot f).slots =
          rw there (kept-set (agree ∷ ranks) laws m.slots m.slots slot x (f x) (kept-same (agree ∷ ranks) laws m.slots) there (same x)) in
          let after : IsSound (agree ∷ ranks) (bag (map_with m slot f)) = IsSound-IsPermutation (agree ∷ ranks) laws _ _
          (IsPermutation-sym _ _ (swaps x there)) (IsSound-swap (agree ∷ ranks) laws (bag m) x (f x) (same x) sound) in
          finds_still agree ranks laws tests keys m.slots (map_with m slot f).slots kept after at found finds.found_each finds.listed finds.some
