use Rattle.std.proofs.Common.{arith}
use Rattle.iddqd_text.proofs.two_keys.single_of.Goals as goal
use Rattle.iddqd_text.proofs.two_keys.single_of.Goals.{in_default-via-then-numbers-lt1+in-New-1, in_default-via-else-numbers-lt1+then-this-lt2+in-New-1}
use Rattle.iddqd_text.proofs.two_keys.single_of.Goals.{in_default-via-else-numbers-lt1+else-this-lt2+then-this-lt3+in-New-1}
use Rattle.iddqd_text.proofs.two_keys.single_of.Goals.{in_default-via-else-numbers-lt1+else-this-lt2+else-this-lt3+then-this-lt4+in-Get1-1}
use Rattle.iddqd_text.proofs.two_keys.single_of.Goals.{in_default-via-else-numbers-lt1+else-this-lt2+else-this-lt3+else-this-lt4+then-this-lt5+in-New-1}
use Rattle.iddqd_text.proofs.two_keys.single_of.Goals.{in_default-via-else-numbers-lt1+else-this-lt2+else-this-lt3+else-this-lt4+else-this-lt5+then-this-lt6+in-New-1}
use Rattle.iddqd_text.proofs.two_keys.single_of.Goals.{in_default-via-else-numbers-lt1+else-this-lt2+else-this-lt3+else-this-lt4+else-this-lt5+else-this-lt6}

-- The ways to the last arm, one for each count of numbers: all of them in one search are near or past its limit of cases.
pub returns-in_default-clause-meaning : goal.returns-in_default-clause-meaning
returns-in_default-clause-meaning c = elim c.in_default.branch [
  | in_default-via-then-numbers-lt1+in-New-1 w ↦ grind arith
  | in_default-via-else-numbers-lt1+then-this-lt2+in-New-1 w ↦ grind arith
  | in_default-via-else-numbers-lt1+else-this-lt2+then-this-lt3+in-New-1 w ↦ grind arith
  | in_default-via-else-numbers-lt1+else-this-lt2+else-this-lt3+then-this-lt4+in-Get1-1 w ↦ grind arith
  | in_default-via-else-numbers-lt1+else-this-lt2+else-this-lt3+else-this-lt4+then-this-lt5+in-New-1 w ↦ grind arith
  | in_default-via-else-numbers-lt1+else-this-lt2+else-this-lt3+else-this-lt4+else-this-lt5+then-this-lt6+in-New-1 w ↦ grind arith
  | in_default-via-else-numbers-lt1+else-this-lt2+else-this-lt3+else-this-lt4+else-this-lt5+else-this-lt6 w ↦ grind arith
]
