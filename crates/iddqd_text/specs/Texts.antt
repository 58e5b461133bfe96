-- Texts as lists of bytes.
use Rattle.std.specs.Prelude.{ℕ, List, Bool, nat_eq}
use Rattle.std.specs.Cmp.Lexicographic.{pointwise}

-- two texts are equal
abbrev pub is_text : List ℕ → List ℕ → Bool
is_text xs ys = pointwise nat_eq xs ys
