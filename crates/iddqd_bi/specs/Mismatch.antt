-- Why an item may not replace others: the item, and the rank at which its key differs, counted from 0.
use Rattle.std.specs.Prelude.{◌≡◌, ℕ, Bool, List, Option, Some, None}
use Rattle.iddqd_store.specs.Bag.{Ranks, first_mismatch}
use Rattle.iddqd_store.specs.Map.{Map, IsFullFor}
use Rattle.iddqd_bi.specs.declared.error.KeyMismatch.{KeyMismatch}
use Rattle.iddqd_bi.specs.declared.error.KeyMismatch.TheVariants as mismatch
use Rattle.iddqd_bi.specs.declared.error.EntryError.{EntryError}
use Rattle.iddqd_bi.specs.declared.error.EntryError.TheVariants.{Key1, Key2, Memory}
use Rattle.iddqd_bi.specs.declared.error.TryEntryError.{TryEntryError}
use Rattle.iddqd_bi.specs.declared.error.TryEntryError.TheVariants.{Closure, Insert}

module _ {T : Type 0} where
  -- `mismatch_item` is the item that is returned because a key of it differs.
  -- Example: For `Key1 x` it is `x`.
  abbrev pub mismatch_item : KeyMismatch T → T
  mismatch_item (mismatch.Key1 x) = x
  mismatch_item (mismatch.Key2 x) = x

  -- `mismatch_rank` is the rank of the key that differs, counted from 0.
  -- Example: For `Key1 x` it is 0.
  abbrev pub mismatch_rank : KeyMismatch T → ℕ
  mismatch_rank (mismatch.Key1 x) = 0
  mismatch_rank (mismatch.Key2 x) = 1

  -- `error_item` is the item that the error of an entry returns.
  -- Example: For `Memory x` it is `x`.
  abbrev pub error_item : EntryError T → T
  error_item (Key1 x) = x
  error_item (Key2 x) = x
  error_item (Memory x) = x

  -- `error_rank` is the rank of the key that differs from that of the entry, counted from 0, or `None` if memory ran
  -- out.
  -- Example: For `Memory x` it is `None`.
  abbrev pub error_rank : EntryError T → Option ℕ
  error_rank (Key1 x) = Some 0
  error_rank (Key2 x) = Some 1
  error_rank (Memory x) = None

  -- The error returns `x`. It names the lowest rank at which `x` fails its test; if there is none, memory ran out in a
  -- full map where nothing conflicts with `x`.
  -- Example: If the error is `Key1 x`, the item fails the test at the rank 0.
  pub record HandsBack {S : Type 0} (ranks : Ranks T) (tests : List (T → Bool))
      (m : Map T S) (x : T) (error : EntryError T) : Type 0 where
    pub handed_back : error_item error ≡ x
    pub rank : first_mismatch tests x ≡ error_rank error
    pub memory : error_rank error ≡ None → IsFullFor ranks m x

  -- The error is that of the entry, and `P` holds for that error.
  -- Example: It does not hold for `Closure e`.
  abbrev pub IsInsert : {E : Type 0} → TryEntryError (EntryError T) E → (EntryError T → Type 0) → Type 0
  IsInsert (Closure e) P = ⊥
  IsInsert (Insert error) P = P error
