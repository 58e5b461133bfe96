-- What a test that does not change says of the slots.
use Rattle.std.specs.Prelude.{◌≡◌, ℕ, Bool, false, List, Option, Some, None}
use Rattle.std.specs.Option.{option_map_or}
use Rattle.std.proofs.Common.{refl, ap, ◌∙◌}
use Rattle.iddqd_store.specs.Slots.{get}
use Rattle.iddqd_store.specs.Rank.Index.{passes_at}

module _ {T : Type 0} (p q : T → Bool) (same : (x : T) → q x ≡ p x) where
  by_slot : (o : Option T) → option_map_or q o false ≡ option_map_or p o false
  by_slot None = refl
  by_slot (Some x) = same x

  -- If the slots and the test do not change, the same slots pass the test.
  pub passes_kept : (slots more : List (Option T)) (slot : ℕ) → more ≡ slots → passes_at q more slot ≡ passes_at p slots slot
  passes_kept slots more slot e = ap (λ s. option_map_or q (get s slot) false) e ∙ by_slot (get slots slot)
