use Rattle.std.proofs.Common.{◌≡◌, ◌+◌, ◌<◌, ◌^◌, drop, length}
use Rattle.std.specs.Prelude.{◌==◌}
use Rattle.std.specs.List.{before_first, position_or_len}
use Rattle.iddqd_text.proofs.Numbering.{number_from}
use Rattle.iddqd_text.proofs.numbers.first_number.Given as goal

-- the digits so far and those of the rest make the number of all, and the field ends where it ended
abbrev pub invariant-loop-rest : goal.invariant-loop-rest
invariant-loop-rest l = record {
  told : number_from l.value (before_first (λ b. b == 32) l.rest) ≡ number_from 0 (before_first (λ b. b == 32) l.fn.fields);
  fits : l.value < 2 ^ 64;
  left : drop (position_or_len (λ b. b == 32) l.rest) l.rest ≡ drop (position_or_len (λ b. b == 32) l.fn.fields) l.fn.fields;
  begun : position_or_len (λ b. b == 32) l.fn.fields + length l.rest ≡ position_or_len (λ b. b == 32) l.rest + length l.fn.fields;
}

abbrev pub decreases-loop-rest : goal.decreases-loop-rest
decreases-loop-rest l = length l.rest
