-- The commands of a text, one line after another.
use Rattle.std.proofs.Common.{◌≡◌, refl, ap, sym, ◌∙◌, ℕ, suc, ◌+◌, List, [], ◌∷◌, ◌++◌, length, Option, Some, None, append-nil, arith}
use Rattle.std.specs.Prelude.{is_none, map}
use Rattle.std.specs.List.{position_from}
use Rattle.iddqd_text.specs.Lines.{lines_of}
use Rattle.iddqd_text.specs.Commands.{command_of_line, first_bad_line}
use Rattle.iddqd_text.specs.declared.words.Word.{Word}

module _ {C S : Type 0} (command_of : Word → List ℕ → Option S) (spelled : C → S) where
  -- finds what each command is spelled by
  abbrev pub found : List C → List (Option S)
  found commands = map (λ command. Some (spelled command)) commands

  -- the commands so far, and those of the lines that are left, are those of all
  abbrev pub SpellsSoFar : List ℕ → List C → List ℕ → Type 0
  SpellsSoFar text commands rest = found commands ++ map (command_of_line command_of) (lines_of rest) ≡ map (command_of_line command_of) (lines_of text)

  -- one more
  found_more : (xs : List C) (command : C) (ys : List (Option S)) → found (xs ++ command ∷ []) ++ ys ≡ found xs ++ Some (spelled command) ∷ ys
  found_more [] command ys = refl
  found_more (x ∷ xs) command ys = ap (λ (zs : List (Option S)). Some (spelled x) ∷ zs) (found_more xs command ys)

  -- a line that spells a command
  pub spells_more : (text rest line after : List ℕ) (xs ys : List C) (command : C)
      → lines_of rest ≡ line ∷ lines_of after → Some (spelled command) ≡ command_of_line command_of line → ys ≡ xs ++ command ∷ []
      → SpellsSoFar text xs rest → SpellsSoFar text ys after
  spells_more text rest line after xs ys command cut h e r =
      ap (λ (zs : List C). found zs ++ map (command_of_line command_of) (lines_of after)) e
      ∙ (found_more xs command (map (command_of_line command_of) (lines_of after))
      ∙ (ap (λ (o : Option S). found xs ++ o ∷ map (command_of_line command_of) (lines_of after)) h
      ∙ (ap (λ (zs : List (List ℕ)). found xs ++ map (command_of_line command_of) zs) (sym cut) ∙ r)))

  -- no line is left
  pub spells_all : (text : List ℕ) (xs : List C) → SpellsSoFar text xs [] → map (command_of_line command_of) (lines_of text) ≡ found xs
  spells_all text xs r = sym r ∙ append-nil (found xs)

  -- the first line that spells none comes after those found
  first_none : (n : ℕ) (xs : List C) (ys : List (Option S)) → position_from (λ o. is_none o) n (found xs ++ None ∷ ys) ≡ Some (n + length xs)
  first_none n [] ys = ap (λ (k : ℕ). Some k) (let e : n ≡ n + 0 = omega arith in e)
  first_none n (x ∷ xs) ys = first_none (n + 1) xs ys ∙ ap (λ (k : ℕ). Some k) (let e : n + 1 + length xs ≡ n + suc (length xs) = omega arith in e)

  -- a line that spells none
  pub spells_none : (text rest line after : List ℕ) (xs : List C) (n : ℕ)
      → lines_of rest ≡ line ∷ lines_of after → None ≡ command_of_line command_of line → n ≡ length xs + 1
      → SpellsSoFar text xs rest → first_bad_line command_of text ≡ Some n
  spells_none text rest line after xs n cut h e r =
      ap (position_from (λ o. is_none o) 1) (sym r ∙ (ap (λ (zs : List (List ℕ)). found xs ++ map (command_of_line command_of) zs) cut
      ∙ ap (λ (o : Option S). found xs ++ o ∷ map (command_of_line command_of) (lines_of after)) (sym h)))
      ∙ (first_none 1 xs (map (command_of_line command_of) (lines_of after)) ∙ ap (λ (k : ℕ). Some k) (let f : 1 + length xs ≡ n = omega arith in f))
