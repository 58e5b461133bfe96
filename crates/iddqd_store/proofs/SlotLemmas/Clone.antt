-- A clone of the slots has their shape.
use Rattle.std.proofs.Common.{◌≡◌, ℕ, zero, suc, List, [], ◌∷◌, map, Some, slice_get, refl, ◌∙◌, sym}
use Rattle.std.proofs.lemmas.List.Elements.{length_all_zip}
use Rattle.std.specs.List.{AllZip}
use Rattle.iddqd_store.specs.Slots.{IsSlotClone, contents, live_count}
use Rattle.iddqd_store.specs.declared.item_set.Slot.{Slot}
use Rattle.iddqd_store.specs.declared.item_set.Slot.TheVariants.{Free, Live}
use Rattle.iddqd_store.specs.Slots.Chain.{item_of, IsCloneOf, IsChain, IsChained}
use Rattle.iddqd_store.proofs.SlotLemmas.Contents.{length-contents}

module _ {T : Type 0} (is_clone : T → T → Type 0) where
  pub slots_are_clones : (slots copies : List (Slot T)) → AllZip (IsCloneOf is_clone) slots copies → AllZip (IsSlotClone is_clone) (map item_of slots) (map item_of copies)
  slots_are_clones [] [] all = tt
  slots_are_clones [] (c ∷ copies) all = absurd all
  slots_are_clones (s ∷ slots) [] all = absurd all
  slots_are_clones (Free next ∷ slots) (c ∷ copies) all = (rw all.0 refl, slots_are_clones slots copies all.1)
  slots_are_clones (Live item ∷ slots) (c ∷ copies) all = (rw all.0.2 all.0.1, slots_are_clones slots copies all.1)

  pub items_are_clones : (slots copies : List (Slot T)) → AllZip (IsCloneOf is_clone) slots copies → AllZip is_clone (contents (map item_of slots)) (contents (map item_of copies))
  items_are_clones [] [] all = tt
  items_are_clones [] (c ∷ copies) all = absurd all
  items_are_clones (s ∷ slots) [] all = absurd all
  items_are_clones (Free next ∷ slots) (c ∷ copies) all = rw all.0 (items_are_clones slots copies all.1)
  items_are_clones (Live item ∷ slots) (c ∷ copies) all = rw all.0.2 (all.0.1, items_are_clones slots copies all.1)

  count_of_clones : (slots copies : List (Slot T)) → AllZip (IsCloneOf is_clone) slots copies → live_count (map item_of copies) ≡ live_count (map item_of slots)
  count_of_clones slots copies all =
      sym (length-contents (map item_of copies)) ∙ sym (length_all_zip is_clone _ _ (items_are_clones slots copies all)) ∙ length-contents (map item_of slots)

  free_in_clones : (slots copies : List (Slot T)) (at next : ℕ) → AllZip (IsCloneOf is_clone) slots copies → slice_get slots at ≡ Some (Free next) → slice_get copies at ≡ Some (Free next)
  free_in_clones [] copies at next all found = absurd (cc)
  free_in_clones (s ∷ slots) [] at next all found = absurd all
  free_in_clones (Free link ∷ slots) (c ∷ copies) zero next all found = rw all.0 found
  free_in_clones (Live item ∷ slots) (c ∷ copies) zero next all found = absurd (cc)
  free_in_clones (s ∷ slots) (c ∷ copies) (suc at) next all found = free_in_clones slots copies at next all.1 found

  chain_in_clones : (slots copies : List (Slot T)) (n at : ℕ) → AllZip (IsCloneOf is_clone) slots copies → IsChain slots n at → IsChain copies n at
  chain_in_clones slots copies zero at all p = p ∙ length_all_zip _ slots copies all
  chain_in_clones slots copies (suc n) at all p = (p.0, free_in_clones slots copies at p.0 all p.1, chain_in_clones slots copies n p.0 all p.2)

  pub IsChained-clone : (slots copies : List (Slot T)) (live next_free : ℕ) → AllZip (IsCloneOf is_clone) slots copies → IsChained slots live next_free → IsChained copies live next_free
  IsChained-clone slots copies live next_free all sound =
      record {
        counted = sound.counted ∙ sym (count_of_clones slots copies all);
        free = sound.free;
        total = sound.total ∙ length_all_zip _ slots copies all;
        linked = chain_in_clones slots copies sound.free next_free all sound.linked;
      }
