-- What reads and writes do.
use Rattle.std.specs.Prelude.{◌<◌, ◌+◌, ℕ, List, length, take, Option, Result, Ok, Err, IfOk}
use Rattle.std.specs.Io.KnownBytes.{Appends}

-- a reader or a writer of std, and how many of its calls failed
pub record Counted (R : Type 0) : Type 0 where
  pub inner : R
  pub failures : ℕ

-- the number of failures after a call: one more at an error
abbrev pub failures_after : {A E : Type 0} → Result A E → ℕ → ℕ
failures_after (Ok x) failures = failures
failures_after (Err e) failures = failures + 1

-- at least one byte, if there is one
abbrev pub TakesSome : {E : Type 0} → Result ℕ E → List ℕ → Type 0
TakesSome r bytes = IfOk r (λ n. 0 < length bytes → 0 < n)

-- a proper prefix of the bytes was appended
abbrev pub AppendsFront : Option (List ℕ) → Option (List ℕ) → List ℕ → Type 0
AppendsFront old new bytes = (n : ℕ) × (n < length bytes) × Appends old new (take n bytes)
