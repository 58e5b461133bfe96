-- Numbers, or items, before others.
use Rattle.std.proofs.Common.{◌≡◌, refl, ap, sym, ℕ, List, [], ◌∷◌, ◌++◌, Option, Some, None, append_assoc}
use Rattle.std.specs.Option.{option_map}
use Rattle.iddqd_text.specs.Commands.{before}

-- numbers, or items, before others
abbrev pub after_all : {T : Type 0} → List T → Option (List T) → Option (List T)
after_all xs found = option_map (λ ns. xs ++ ns) found

-- one more
pub after_one : (xs : List ℕ) (n : ℕ) (found : Option (List ℕ)) → after_all xs (before (Some n) found) ≡ after_all (xs ++ n ∷ []) found
after_one xs n None = refl
after_one xs n (Some ns) = ap (λ (ys : List ℕ). Some ys) (sym (append_assoc xs (n ∷ []) ns))
