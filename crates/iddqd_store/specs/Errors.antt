-- What a contract sees of a `DuplicateItem`.
use Rattle.std.specs.Prelude.{refl}
use Rattle.std.specs.Coded.{Coded, code_by, coded×}

-- Contracts see a `DuplicateItem` as the item that was rejected and the items that conflict with it.
-- Example: (1, 20), and (1, 10), (2, 20).
pub record Duplicates (T L : Type 0) : Type 0 where
  pub new_item : T
  pub duplicates : L

abbrev pub duplicates_code : {T L : Type 0} → Coded T → Coded L → Coded (Duplicates T L)
duplicates_code {T} {L} item list =
    code_by (T × L) (coded× item list)
    (λ d. (d.new_item, d.duplicates)) (λ p. record { new_item = p.0; duplicates = p.1 }) (λ _. refl)
