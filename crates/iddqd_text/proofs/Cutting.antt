-- The first line of a text.
use Rattle.std.proofs.Common.{◌≡◌, refl, ap, ◌∙◌, ℕ, suc, ◌+◌, ◌≤◌, ◌<◌, List, [], ◌∷◌, length, take, drop, Bool, true, false, cond, arith, add-one, one-add, ◌-◌}
use Rattle.std.specs.Prelude.{◌==◌, not}
use Rattle.std.specs.List.{prefix_len}
use Rattle.std.proofs.lemmas.List.{take_all}
use Rattle.std.proofs.Math.ListN.{drop_of_length-le}
use Rattle.iddqd_text.specs.Lines.{lines_of, onto_first}
use Rattle.iddqd_text.proofs.Fields.{whole}

-- how many bytes are before the first line end
abbrev pub line_len : List ℕ → ℕ
line_len bytes = prefix_len (λ b. not (b == 10)) bytes

-- a byte that ends no line, before what begins with a line
onto_line : (b : ℕ) (bs : List ℕ) → ((b == 10) ≡ false) → (0 < length bs → lines_of bs ≡ take (line_len bs) bs ∷ lines_of (drop (suc (line_len bs)) bs))
    → onto_first b (lines_of bs) ≡ (b ∷ take (line_len bs) bs) ∷ lines_of (drop (suc (line_len bs)) bs)
onto_line b [] e h = refl
onto_line b (c ∷ bs) e h = ap (onto_first b) (h (omega arith))

-- a byte before what is cut already
cut_byte : (b : ℕ) (bs : List ℕ) (is_end : Bool) → (b == 10) ≡ is_end → (0 < length bs → lines_of bs ≡ take (line_len bs) bs ∷ lines_of (drop (suc (line_len bs)) bs))
    → cond is_end ([] ∷ lines_of bs) (onto_first b (lines_of bs))
    ≡ take (cond (not is_end) (1 + line_len bs) 0) (b ∷ bs) ∷ lines_of (drop (suc (cond (not is_end) (1 + line_len bs) 0)) (b ∷ bs))
cut_byte b bs true e h = refl
cut_byte b bs false e h = rw one-add (onto_line b bs e h)

-- a text is its first line and the rest
pub cut_text : (bytes : List ℕ) → 0 < length bytes → lines_of bytes ≡ take (line_len bytes) bytes ∷ lines_of (drop (suc (line_len bytes)) bytes)
cut_text [] h = absurd (omega arith)
cut_text (b ∷ bs) h = cut_byte b bs (b == 10) refl (cut_text bs)

-- the first line, if it has an end
pub first_line : (bytes : List ℕ) (at : ℕ) → at ≡ line_len bytes → 0 < length bytes
    → lines_of bytes ≡ take at bytes ∷ lines_of (take (length bytes - (at + 1)) (drop (at + 1) bytes))
first_line bytes at e h = rw (whole (at + 1) bytes, add-one, e) (cut_text bytes h)

-- the last line, if it has no end
pub last_line : (bytes : List ℕ) (at : ℕ) → at ≡ line_len bytes → 0 < length bytes → length bytes ≤ at → lines_of bytes ≡ bytes ∷ []
last_line bytes at e h k =
    cut_text bytes h ∙ rw (← e) (ap (λ line. line ∷ lines_of (drop (suc at) bytes)) (take_all at bytes k)
    ∙ ap (λ rest. bytes ∷ lines_of rest) (drop_of_length-le bytes {i = suc at} (omega arith)))
