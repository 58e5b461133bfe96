use Rattle.std.proofs.Common.{◌≡◌, drop, length}
use Rattle.std.specs.Prelude.{◌==◌}
use Rattle.std.specs.List.{slice_split}
use Rattle.iddqd_text.specs.Commands.{numbers_of}
use Rattle.iddqd_text.proofs.Counting.{after_all}
use Rattle.iddqd_text.proofs.Fields.{fields_behind}
use Rattle.iddqd_text.proofs.parse.read_numbers.Given as goal

-- the numbers so far, before those of the fields that are left
abbrev pub invariant-loop-rest : goal.invariant-loop-rest
invariant-loop-rest l = after_all l.numbers.items (numbers_of (fields_behind l.rest)) ≡ numbers_of (drop 1 (slice_split (λ b. b == 32) l.fn.text))

abbrev pub decreases-loop-rest : goal.decreases-loop-rest
decreases-loop-rest l = length l.rest
