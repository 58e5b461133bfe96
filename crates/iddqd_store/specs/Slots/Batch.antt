-- How contracts see a `Batch`.
use Rattle.std.specs.Prelude.{ℕ, List, refl}
use Rattle.std.specs.Coded.{Coded, code_by, coded×, coded_ℕ, coded_list}

-- Contracts see a `Batch` as the slots of the items that were inserted, and the number of items that can be noted
-- without an allocation.
-- Example: The slots 4, 2, and 8.
pub record Batch : Type 0 where
  pub slots : List ℕ
  pub room : ℕ

abbrev pub batch_code : Coded Batch
batch_code =
    code_by (List ℕ × ℕ) (coded× (coded_list coded_ℕ) coded_ℕ)
    (λ e. (e.slots, e.room)) (λ p. record { slots = p.0; room = p.1 }) (λ _. refl)
