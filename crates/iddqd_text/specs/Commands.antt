-- The commands of a text.
use Rattle.std.specs.Prelude.{◌≡◌, ◌==◌, ℕ, List, [], ◌∷◌, Option, Some, None, is_none, option_and_then, map}
use Rattle.std.specs.List.{slice_split, position_from}
use Rattle.iddqd_text.specs.Lines.{lines_of}
use Rattle.iddqd_text.specs.Numbers.{number_of}
use Rattle.iddqd_text.specs.Words.{word_of}
use Rattle.iddqd_text.specs.declared.words.Word.{Word}

-- a number before others
abbrev pub before : Option ℕ → Option (List ℕ) → Option (List ℕ)
before (Some n) (Some ns) = Some (n ∷ ns)
before n ns = None

-- the numbers that the fields spell, if each spells one
abbrev pub numbers_of : List (List ℕ) → Option (List ℕ)
numbers_of [] = Some []
numbers_of (field ∷ fields) = before (number_of field) (numbers_of fields)

-- What a line spells: a command without a list, or `extend_unique` of these items. A command with a list holds a `Vec`,
-- and no line says where this is stored.
pub data Spelled (C T : Type 0) : Type 0 where
  single : C → Spelled C T
  add_all : List T → Spelled C T

-- `command_of` is the meaning of the words of a kind of map, each of type `S`
module _ {S : Type 0} (command_of : Word → List ℕ → Option S) where
  -- what a word and the numbers after it spell
  abbrev pub command_of_fields : List (List ℕ) → Option S
  command_of_fields [] = None
  command_of_fields (name ∷ digits) =
      option_and_then (λ word. option_and_then (command_of word) (numbers_of digits)) (word_of name)

  -- what a line spells: there is one space before each number
  abbrev pub command_of_line : List ℕ → Option S
  command_of_line line = command_of_fields (slice_split (λ b. b == 32) line)

  -- each line of the text spells its command, where `spelled` is what a command is spelled by
  abbrev pub Spells : {C : Type 0} → (C → S) → List ℕ → List C → Type 0
  Spells spelled text commands = map command_of_line (lines_of text) ≡ map (λ command. Some (spelled command)) commands

  -- the number of the first line that spells none, where the first line is line 1
  abbrev pub first_bad_line : List ℕ → Option ℕ
  first_bad_line text = position_from (λ found. is_none found) 1 (map command_of_line (lines_of text))
