-- A number from the digits that were read.
use Rattle.std.proofs.Common.{◌≡◌, refl, ap, sym, ◌∙◌, ℕ, suc, ◌+◌, ◌*◌, ◌-◌, ◌^◌, ◌≤◌, ◌<◌, List, [], ◌∷◌, length, get_or, take, drop, Bool, true, false, cond, Option, Some, None, arith, one-add}
use Rattle.std.specs.Prelude.{◌≢◌, ◌==◌, ◌&&◌, nat_lt, not}
use Rattle.std.proofs.Math.Nat.{pow-succ', one-le-pow, mul_assoc, add-mul, le-mul_of_pos_right}
use Rattle.std.proofs.lemmas.Bool.Decides.{nat_tests}
use Rattle.iddqd_text.specs.Numbers.{is_digit, all_digits, value, number_of, pushed}
use Rattle.std.specs.List.{before_first, position_or_len}
use Rattle.std.proofs.lemmas.List.{take_all}

-- the number, if the digits are digits and it fits
abbrev pub kept : Bool → ℕ → Option ℕ
kept p x = cond (p && nat_lt x (2 ^ 64)) (Some x) None

-- the number of the digits that are left, where n was read before them
abbrev pub number_from : ℕ → List ℕ → Option ℕ
number_from n rest = kept (all_digits rest) (n * 10 ^ length rest + value rest)

-- digits of a value that does not fit
kept_large : (p : Bool) (x : ℕ) → 2 ^ 64 ≤ x → kept p x ≡ None
kept_large p x h = grind (arith, nat_tests)

-- a digit more
kept_step : (p q : Bool) (x y : ℕ) → p ≡ true → x ≡ y → kept (p && q) x ≡ kept q y
kept_step true q x y h e = ap (kept q) e
kept_step false q x y h e = cc

-- a byte that is no digit
kept_bad : (p q : Bool) (x : ℕ) → p ≡ false → kept (p && q) x ≡ None
kept_bad true q x h = cc
kept_bad false q x h = refl

-- the weight of a digit, on either side
total_step : (n d p v : ℕ) → n * (10 * p) + (d * p + v) ≡ (n * 10 + d) * p + v
total_step n d p v = omega (arith, mul_assoc n 10 p, add-mul (n * 10) d p)

-- a digit moves from those left to those read
from_step : (n b : ℕ) (rest : List ℕ) → is_digit b ≡ true → number_from n (b ∷ rest) ≡ number_from (n * 10 + (b - 48)) rest
from_step n b rest h =
    kept_step (is_digit b) (all_digits rest) (n * 10 ^ suc (length rest) + ((b - 48) * 10 ^ length rest + value rest)) ((n * 10 + (b - 48)) * 10 ^ length rest + value rest) h
    (rw pow-succ' (total_step n (b - 48) (10 ^ length rest) (value rest)))

-- a number that does not fit does not fit with more digits
grown : (n p v : ℕ) → 1 ≤ p → 2 ^ 64 ≤ n → 2 ^ 64 ≤ n * p + v
grown n p v h k = let e : n ≤ n * p = le-mul_of_pos_right {m = p} n h in omega arith

-- the same for the digits that are left
from_large : (n : ℕ) (rest : List ℕ) → 2 ^ 64 ≤ n → number_from n rest ≡ None
from_large n rest h = kept_large (all_digits rest) (n * 10 ^ length rest + value rest) (grown n (10 ^ length rest) (value rest) (one-le-pow (length rest) 10 (omega arith)) h)

-- the kept value is the number
some_of : (q : Bool) (x m : ℕ) → cond q (Some x) None ≡ Some m → x ≡ m
some_of true x m h = cc
some_of false x m h = cc

-- and each byte was a digit
kept_is : (p : Bool) (x m : ℕ) → kept p x ≡ Some m → (p ≡ true) × (x ≡ m)
kept_is true x m h = (refl, some_of (nat_lt x (2 ^ 64)) x m h)
kept_is false x m h = cc

-- a value that was not kept did not fit
none_of : (q : Bool) (x : ℕ) → nat_lt x (2 ^ 64) ≡ q → cond q (Some x) None ≡ None → 2 ^ 64 ≤ x
none_of true x e h = cc
none_of false x e h = grind (arith, nat_tests)

-- at a next digit
pushed_some : (n b m : ℕ) (rest : List ℕ) → pushed n b ≡ Some m → number_from n (b ∷ rest) ≡ number_from m rest
pushed_some n b m rest h =
    let k = kept_is (is_digit b) (n * 10 + (b - 48)) m h in
    from_step n b rest k.0 ∙ ap (λ z. number_from z rest) k.1

-- a byte that is no digit, or a number that no longer fits
none_at : (n b : ℕ) (rest : List ℕ) (q : Bool) → is_digit b ≡ q → kept q (n * 10 + (b - 48)) ≡ None → number_from n (b ∷ rest) ≡ None
none_at n b rest true e h = from_step n b rest e ∙ from_large (n * 10 + (b - 48)) rest (none_of (nat_lt (n * 10 + (b - 48)) (2 ^ 64)) (n * 10 + (b - 48)) refl h)
none_at n b rest false e h = kept_bad (is_digit b) (all_digits rest) (n * 10 ^ suc (length rest) + ((b - 48) * 10 ^ length rest + value rest)) e

-- at a byte that is no digit, or where the number no longer fits
pushed_none : (n b : ℕ) (rest : List ℕ) → pushed n b ≡ None → number_from n (b ∷ rest) ≡ None
pushed_none n b rest h = none_at n b rest (is_digit b) refl h

-- the kept value fits
lt_of : (q : Bool) (x m : ℕ) → nat_lt x (2 ^ 64) ≡ q → cond q (Some x) None ≡ Some m → m < 2 ^ 64
lt_of true x m e h = let k : x ≡ m = cc in let l : x < 2 ^ 64 = grind (arith, nat_tests) in omega arith
lt_of false x m e h = cc

-- the same for digits
kept_lt : (p : Bool) (x m : ℕ) → kept p x ≡ Some m → m < 2 ^ 64
kept_lt true x m h = lt_of (nat_lt x (2 ^ 64)) x m refl h
kept_lt false x m h = cc

-- the same for one digit more
pub pushed_fits : (n b m : ℕ) → pushed n b ≡ Some m → m < 2 ^ 64
pushed_fits n b m h = kept_lt (is_digit b) (n * 10 + (b - 48)) m h

-- whether a byte ends a field
abbrev pub is_space : ℕ → Bool
is_space b = b == 32

-- a byte in a field
in_field : (b : ℕ) (bs : List ℕ) (is : Bool) → is_space b ≡ is → b ≢ 32 → position_or_len is_space (b ∷ bs) ≡ 1 + position_or_len is_space bs
in_field b bs true e h = let same : b ≡ 32 = grind (arith, nat_tests) in absurd (h same)
in_field b bs false e h = ap (λ is. cond (not is) (1 + position_or_len is_space bs) 0) e

-- what comes after a byte of a field
pub field_goes_on : (rest after : List ℕ) → 1 ≤ length rest → after ≡ take (length rest - 1) (drop 1 rest) → get_or rest 0 0 ≢ 32
    → (position_or_len is_space rest ≡ 1 + position_or_len is_space after) × (length rest ≡ 1 + length after) × (before_first is_space rest ≡ get_or rest 0 0 ∷ before_first is_space after)
    × (drop (position_or_len is_space rest) rest ≡ drop (position_or_len is_space after) after)
field_goes_on [] after h e k = absurd (omega arith)
field_goes_on (b ∷ bs) after h e k =
    let same : after ≡ bs = e ∙ take_all (length (b ∷ bs) - 1) bs (omega arith) in
    let at : position_or_len is_space (b ∷ bs) ≡ 1 + position_or_len is_space bs = in_field b bs (is_space b) refl k in
    rw same (at, sym (one-add (length bs)), ap (λ n. take n (b ∷ bs)) (at ∙ one-add (position_or_len is_space bs)), ap (λ n. drop n (b ∷ bs)) (at ∙ one-add (position_or_len is_space bs)))

-- a digit of a field moves to those read
pub field_told : (rest after : List ℕ) (n m : ℕ) (all : Option ℕ) → 1 ≤ length rest → after ≡ take (length rest - 1) (drop 1 rest) → get_or rest 0 0 ≢ 32 → pushed n (get_or rest 0 0) ≡ Some m
    → number_from n (before_first is_space rest) ≡ all → number_from m (before_first is_space after) ≡ all
field_told rest after n m all h e k p r =
    sym (pushed_some n (get_or rest 0 0) m (before_first is_space after) p) ∙ (sym (ap (number_from n) (field_goes_on rest after h e k).2) ∙ r)

-- no number has other bytes
none_of_all : (bytes : List ℕ) → number_from 0 bytes ≡ None → number_of bytes ≡ None
none_of_all [] h = refl
none_of_all (b ∷ bs) h =
    let e : value (b ∷ bs) ≡ 0 * 10 ^ length (b ∷ bs) + value (b ∷ bs) = omega arith in
    ap (kept (all_digits (b ∷ bs))) e ∙ h

-- at a byte of a field that is no digit, or where the number no longer fits
pub field_spells_none : (fields rest after : List ℕ) (n : ℕ) → 1 ≤ length rest → after ≡ take (length rest - 1) (drop 1 rest) → get_or rest 0 0 ≢ 32 → pushed n (get_or rest 0 0) ≡ None
    → number_from n (before_first is_space rest) ≡ number_from 0 (before_first is_space fields) → number_of (before_first is_space fields) ≡ None
field_spells_none fields rest after n h e k p r =
    none_of_all (before_first is_space fields)
    (sym r ∙ (ap (number_from n) (field_goes_on rest after h e k).2 ∙ pushed_none n (get_or rest 0 0) (before_first is_space after) p))
