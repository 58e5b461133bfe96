-- A text compared with a word, byte after byte.
use Rattle.std.proofs.Common.{◌≡◌, refl, ap, sym, ◌∙◌, ℕ, ◌+◌, ◌≤◌, ◌<◌, List, [], ◌∷◌, length, get_or, drop, Bool, true, false, arith}
use Rattle.std.specs.Prelude.{◌≢◌, ◌==◌, ◌&&◌, nat_eq}
use Rattle.std.proofs.lemmas.List.{drop_more, drop_all}
use Rattle.std.proofs.lemmas.Bool.{eq-eqb}
use Rattle.std.specs.Cmp.Lexicographic.{unequal}
use Rattle.iddqd_text.specs.Texts.{is_text}

-- the next byte, and those after it
split_at : (xs ys : List ℕ) (i : ℕ) → i < length xs → i < length ys
    → is_text (drop i xs) (drop i ys) ≡ (nat_eq (get_or xs i 0) (get_or ys i 0) && is_text (drop (i + 1) xs) (drop (i + 1) ys))
split_at xs ys i h k =
    ap (λ (zs : List ℕ). is_text zs (drop i ys)) (drop_more xs i 0 h)
    ∙ ap (λ (zs : List ℕ). is_text (get_or xs i 0 ∷ drop (i + 1) xs) zs) (drop_more ys i 0 k)

both : (p q : Bool) → p ≡ true → (p && q) ≡ q
both true q h = refl
both false q h = cc

neither : (p q : Bool) → p ≡ false → (p && q) ≡ false
neither true q h = cc
neither false q h = refl

-- a byte that is the same
pub goes_on : (xs ys : List ℕ) (i : ℕ) → i < length xs → i < length ys → get_or xs i 0 ≡ get_or ys i 0
    → is_text (drop i xs) (drop i ys) ≡ is_text xs ys → is_text (drop (i + 1) xs) (drop (i + 1) ys) ≡ is_text xs ys
goes_on xs ys i h k e r =
    sym (split_at xs ys i h k ∙ both (nat_eq (get_or xs i 0) (get_or ys i 0)) (is_text (drop (i + 1) xs) (drop (i + 1) ys)) (eq-eqb (get_or xs i 0) (get_or ys i 0) e)) ∙ r

-- a byte that is another
pub differs : (xs ys : List ℕ) (i : ℕ) → i < length xs → i < length ys → (get_or xs i 0 == get_or ys i 0) ≡ false
    → is_text (drop i xs) (drop i ys) ≡ is_text xs ys → false ≡ is_text xs ys
differs xs ys i h k e r =
    sym (split_at xs ys i h k ∙ neither (nat_eq (get_or xs i 0) (get_or ys i 0)) (is_text (drop (i + 1) xs) (drop (i + 1) ys)) e) ∙ r

-- no byte is left
pub ends_so : (xs ys : List ℕ) (i : ℕ) → length xs ≡ length ys → length ys ≤ i
    → is_text (drop i xs) (drop i ys) ≡ is_text xs ys → true ≡ is_text xs ys
ends_so xs ys i e h r =
    sym (ap (λ (zs : List ℕ). is_text zs (drop i ys)) (drop_all i xs (omega (arith, e, h))) ∙ ap (is_text []) (drop_all i ys h)) ∙ r

-- as many bytes are wanted as there are
pub differs_in_length : (xs ys : List ℕ) → (length xs ≢ length ys) → false ≡ is_text xs ys
differs_in_length xs ys n = sym (unequal nat_eq xs ys n)
