-- The result of a search.
use Rattle.std.specs.Prelude.{Option, Some, None, ⊤}
use Rattle.iddqd_store.specs.declared.index_table.searched.Searched.{Searched}
use Rattle.iddqd_store.specs.declared.index_table.searched.Searched.TheVariants.{Found, Vacant}

module _ {F V : Type 0} where
  -- `found_of` is what the search found, or `None`.
  -- Example: For `Found 2` it is `Some 2`.
  abbrev pub found_of : Searched F V → Option F
  found_of (Found x) = Some x
  found_of (Vacant at) = None

  -- `P` holds for what the search found, if it found anything.
  -- Example: For `Found 2` it is `P 2`, and for `Vacant at` it says nothing.
  abbrev pub IfFound : Searched F V → (F → Type 0) → Type 0
  IfFound (Found x) P = P x
  IfFound (Vacant at) P = ⊤

  -- If the search found nothing, `P` holds for where it ended.
  -- Example: For `Vacant at` it is `P at`, and for `Found 2` it says nothing.
  abbrev pub IfVacant : Searched F V → (V → Type 0) → Type 0
  IfVacant (Found x) P = ⊤
  IfVacant (Vacant at) P = P at

  -- `P` holds, if the search found anything.
  -- Example: For `Found 2` it is `P`, and for `Vacant at` it says nothing.
  abbrev pub OnFound : Searched F V → Type 0 → Type 0
  OnFound r P = IfFound r (λ _. P)

  -- `P` holds, if the search found nothing.
  -- Example: For `Vacant at` it is `P`, and for `Found 2` it says nothing.
  abbrev pub OnVacant : Searched F V → Type 0 → Type 0
  OnVacant r P = IfVacant r (λ _. P)
