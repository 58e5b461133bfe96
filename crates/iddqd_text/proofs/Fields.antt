-- The fields of a line, one after another.
use Rattle.std.proofs.Common.{◌≡◌, refl, ap, sym, ◌∙◌, ℕ, ◌+◌, ◌-◌, ◌≤◌, List, [], ◌∷◌, ◌++◌, length, take, drop, Bool, true, false, cond, Option, Some, None, one-add, arith}
use Rattle.std.specs.Prelude.{◌==◌, not, option_and_then}
use Rattle.std.specs.List.{before_first, position_or_len, prefix_len, slice_split, onto_first}
use Rattle.std.proofs.lemmas.List.{take_all, length-drop}
use Rattle.iddqd_text.specs.Numbers.{number_of}
use Rattle.iddqd_text.specs.Commands.{numbers_of, before, command_of_line, command_of_fields}
use Rattle.iddqd_text.proofs.Counting.{after_all, after_one}
use Rattle.iddqd_text.specs.Words.{word_of}
use Rattle.iddqd_text.specs.declared.words.Word.{Word}

-- how many bytes are before the first space
abbrev pub field_len : List ℕ → ℕ
field_len bytes = prefix_len (λ b. not (b == 32)) bytes

-- the fields after the first one are those of what comes after it
abbrev pub fields_behind : List ℕ → List (List ℕ)
fields_behind [] = []
fields_behind (space ∷ bytes) = slice_split (λ b. b == 32) bytes

-- a byte before what is cut already
cut_byte : (b : ℕ) (bs : List ℕ) (is_space : Bool) → slice_split (λ b. b == 32) bs ≡ take (field_len bs) bs ∷ fields_behind (drop (field_len bs) bs)
    → cond is_space ([] ∷ slice_split (λ b. b == 32) bs) (onto_first b (slice_split (λ b. b == 32) bs))
    ≡ take (cond (not is_space) (1 + field_len bs) 0) (b ∷ bs) ∷ fields_behind (drop (cond (not is_space) (1 + field_len bs) 0) (b ∷ bs))
cut_byte b bs true h = refl
cut_byte b bs false h = rw one-add (ap (onto_first b) h)

-- a line is its first field and the others
pub cut_line : (bytes : List ℕ) → slice_split (λ b. b == 32) bytes ≡ take (field_len bytes) bytes ∷ fields_behind (drop (field_len bytes) bytes)
cut_line [] = refl
cut_line (b ∷ bs) = cut_byte b bs (b == 32) (cut_line bs)

-- a slice to the end
pub whole : (k : ℕ) (xs : List ℕ) → take (length xs - k) (drop k xs) ≡ drop k xs
whole k xs = take_all (length xs - k) (drop k xs) (omega (arith, length-drop k xs))

-- no number before others
after_none : (found : Option (List ℕ)) → after_all [] found ≡ found
after_none None = refl
after_none (Some ns) = refl

-- the first field is passed
pub numbers_first : (text rest xs : List ℕ) (at : ℕ) → at ≡ field_len text → rest ≡ take (length text - at) (drop at text) → xs ≡ []
    → after_all xs (numbers_of (fields_behind rest)) ≡ numbers_of (drop 1 (slice_split (λ b. b == 32) text))
numbers_first text rest xs at e r x =
    rw (x, r, whole at text, e) (after_none (numbers_of (fields_behind (drop (field_len text) text))) ∙ ap (λ fields. numbers_of (drop 1 fields)) (sym (cut_line text)))

-- the field after a space, and the others
behind : (rest fields : List ℕ) → 1 ≤ length rest → fields ≡ take (length rest - 1) (drop 1 rest)
    → fields_behind rest ≡ before_first (λ b. b == 32) fields ∷ fields_behind (drop (position_or_len (λ b. b == 32) fields) fields)
behind [] fields h e = absurd (omega arith)
behind (space ∷ bytes) fields h e = let f : fields ≡ bytes = e ∙ whole 1 (space ∷ bytes) in rw f (cut_line bytes)

-- a field that spells a number
pub numbers_more : (rest fields after xs ys : List ℕ) (n : ℕ) (all : Option (List ℕ))
    → 1 ≤ length rest → fields ≡ take (length rest - 1) (drop 1 rest) → number_of (before_first (λ b. b == 32) fields) ≡ Some n
    → after ≡ drop (position_or_len (λ b. b == 32) fields) fields → ys ≡ xs ++ n ∷ []
    → after_all xs (numbers_of (fields_behind rest)) ≡ all → after_all ys (numbers_of (fields_behind after)) ≡ all
numbers_more rest fields after xs ys n all h e m r w v =
    rw (w, r) (sym (after_one xs n (numbers_of (fields_behind (drop (position_or_len (λ b. b == 32) fields) fields))))
    ∙ (ap (λ (o : Option ℕ). after_all xs (before o (numbers_of (fields_behind (drop (position_or_len (λ b. b == 32) fields) fields))))) (sym m)
    ∙ (ap (λ (fs : List (List ℕ)). after_all xs (numbers_of fs)) (sym (behind rest fields h e)) ∙ v)))

-- a field that spells none
pub numbers_none : (rest fields xs : List ℕ) (all : Option (List ℕ))
    → 1 ≤ length rest → fields ≡ take (length rest - 1) (drop 1 rest) → number_of (before_first (λ b. b == 32) fields) ≡ None
    → after_all xs (numbers_of (fields_behind rest)) ≡ all → all ≡ None
numbers_none rest fields xs all h e m v =
    sym v ∙ (ap (λ (fs : List (List ℕ)). after_all xs (numbers_of fs)) (behind rest fields h e)
    ∙ ap (λ (o : Option ℕ). after_all xs (before o (numbers_of (fields_behind (drop (position_or_len (λ b. b == 32) fields) fields))))) m)

-- the first field of what comes after a field is empty
empty_byte : (b : ℕ) (bs : List ℕ) (is_space : Bool) → (b == 32) ≡ is_space → drop 1 (slice_split (λ b. b == 32) (drop (field_len bs) bs)) ≡ fields_behind (drop (field_len bs) bs)
    → drop 1 (slice_split (λ b. b == 32) (drop (cond (not is_space) (1 + field_len bs) 0) (b ∷ bs))) ≡ fields_behind (drop (cond (not is_space) (1 + field_len bs) 0) (b ∷ bs))
empty_byte b bs true e h = ap (λ is. drop 1 (cond is ([] ∷ slice_split (λ b. b == 32) bs) (onto_first b (slice_split (λ b. b == 32) bs)))) e
empty_byte b bs false e h = rw one-add h

empty_field : (bytes : List ℕ) → drop 1 (slice_split (λ b. b == 32) (drop (field_len bytes) bytes)) ≡ fields_behind (drop (field_len bytes) bytes)
empty_field [] = refl
empty_field (b ∷ bs) = empty_byte b bs (b == 32) refl (empty_field bs)

module _ {S : Type 0} (command_of : Word → List ℕ → Option S) where
  -- a line without a word
  pub without_word : (line : List ℕ) (at : ℕ) → at ≡ field_len line → word_of (take at line) ≡ None → command_of_line command_of line ≡ None
  without_word line at e h =
      let named : word_of (take (field_len line) line) ≡ None = rw (← e) h in
      ap (command_of_fields command_of) (cut_line line)
      ∙ ap (λ (o : Option Word). option_and_then (λ word. option_and_then (command_of word) (numbers_of (fields_behind (drop (field_len line) line)))) o) named

  -- a line with a word, and with these numbers, if there are any
  pub with_word : (line rest : List ℕ) (at : ℕ) (word : Word) (found : Option (List ℕ)) → at ≡ field_len line → word_of (take at line) ≡ Some word → rest ≡ take (length line - at) (drop at line)
      → numbers_of (drop 1 (slice_split (λ b. b == 32) rest)) ≡ found → command_of_line command_of line ≡ option_and_then (command_of word) found
  with_word line rest at word found e h r n =
      let named : word_of (take (field_len line) line) ≡ Some word = rw (← e) h in
      let left : rest ≡ drop (field_len line) line = rw (← e) (r ∙ whole at line) in
      let behind_word : numbers_of (fields_behind (drop (field_len line) line)) ≡ found =
      ap numbers_of (sym (empty_field line)) ∙ (ap (λ (bytes : List ℕ). numbers_of (drop 1 (slice_split (λ b. b == 32) bytes))) (sym left) ∙ n) in
      ap (command_of_fields command_of) (cut_line line)
      ∙ (ap (λ (o : Option Word). option_and_then (λ word. option_and_then (command_of word) (numbers_of (fields_behind (drop (field_len line) line)))) o) named
      ∙ ap (option_and_then (command_of word)) behind_word)
