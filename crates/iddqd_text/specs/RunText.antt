-- What a run of a text writes.
use Rattle.std.specs.Prelude.{◌≡◌, ℕ, List, Option, Some}
use Rattle.std.specs.Io.KnownBytes.{Appends}
use Rattle.iddqd_text.specs.Ends.{AppendsFront}
use Rattle.iddqd_text.specs.Commands.{Spells, first_bad_line}
use Rattle.iddqd_text.specs.Printed.{bad_line_message}
use Rattle.iddqd_text.specs.TwoKeys as two_keys
use Rattle.iddqd_text.specs.ThreeKeys as three_keys
use Rattle.iddqd_text.specs.declared.outcome.Kind.{Kind}
use Rattle.iddqd_text.specs.declared.outcome.Kind.TheVariants.{Bi, Tri}
use Rattle.iddqd_text.specs.declared.outcome.RunEnd.{RunEnd}
use Rattle.iddqd_text.specs.declared.outcome.RunEnd.TheVariants.{Done, BadLine}
use Rattle.iddqd_text.specs.declared.words.Word.{Word}

-- the run of an input may end in this way, with this output: the lines of the replies to its commands, or the message
-- of its first bad line; the arguments say what the words of a kind mean, how its commands are spelled, and what its
-- runs print
module _
    {C S : Type 0} (command_of : Word → List ℕ → Option S) (spelled : C → S) (Prints : List C → List ℕ → Type 0)
  where
    abbrev pub IsAnswer : List ℕ → RunEnd → List ℕ → Type 0
    IsAnswer input Done output = (commands : List C) × Spells command_of spelled input commands × Prints commands output
    IsAnswer input (BadLine n) output = (first_bad_line command_of input ≡ Some n) × (output ≡ bad_line_message n)

-- the same for each kind of map
abbrev pub IsOutcome : Kind → List ℕ → RunEnd → List ℕ → Type 0
IsOutcome Bi input end output = IsAnswer two_keys.command_of two_keys.spelled two_keys.Prints input end output
IsOutcome Tri input end output = IsAnswer three_keys.command_of three_keys.spelled three_keys.Prints input end output

-- such an output was written whole
abbrev pub Writes : Kind → List ℕ → RunEnd → Option (List ℕ) → Option (List ℕ) → Type 0
Writes kind input end old new = (output : List ℕ) × IsOutcome kind input end output × Appends old new output

-- a proper prefix of such an output was written
abbrev pub WritesFront : Kind → List ℕ → Option (List ℕ) → Option (List ℕ) → Type 0
WritesFront kind input old new =
    (end : RunEnd) × (output : List ℕ) × IsOutcome kind input end output × AppendsFront old new output
