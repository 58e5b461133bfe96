-- A cell as two numbers. In an empty cell all bits of both are ones.
use Rattle.std.specs.Prelude.{ℕ, ◌-◌, ◌^◌, ◌==◌, Option, None, Some, if◌then◌else◌}

-- No slot has this number.
abbrev pub all_ones : ℕ
all_ones = 2 ^ 64 - 1

abbrev pub pair_of : ℕ → ℕ → Option (ℕ × ℕ)
pair_of hash number = if number == all_ones then None else Some (hash, number)

abbrev pub hash_of : Option (ℕ × ℕ) → ℕ
hash_of None = all_ones
hash_of (Some p) = p.0

abbrev pub number_of : Option (ℕ × ℕ) → ℕ
number_of None = all_ones
number_of (Some p) = p.1
