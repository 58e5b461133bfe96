-- What a text spells.
use Rattle.std.specs.Prelude.{◌≡◌, ℕ, List, Option, Some}
use Rattle.iddqd_text.specs.Commands.{Spells, first_bad_line}
use Rattle.iddqd_text.specs.declared.parse.Parsed.{Parsed}
use Rattle.iddqd_text.specs.declared.parse.Parsed.TheVariants.{Commands, BadLine}
use Rattle.iddqd_text.specs.declared.words.Word.{Word}

-- the commands of all its lines, or the first bad line
abbrev pub IsParse : {C S : Type 0} → (Word → List ℕ → Option S) → (C → S) → List ℕ → Parsed C → Type 0
IsParse command_of spelled text (Commands commands) = Spells command_of spelled text commands.items
IsParse command_of spelled text (BadLine n) = first_bad_line command_of text ≡ Some n
