-- Texts that are compared by the number of their first bytes, and then by themselves.
use Rattle.std.specs.Prelude.{◌≡◌, ◌≢◌, ℕ, zero, suc, ◌+◌, ◌*◌, ◌^◌, ◌<◌, ◌≤◌, List, [], ◌∷◌, get_or}
use Rattle.std.proofs.Common.{refl, sym, ap, ◌∙◌, arith}
use Rattle.std.proofs.lemmas.Bool.{false≢true}
use Rattle.std.proofs.Math.Nat.{mul-le-mul_right, suc-mul, pow-succ'}
use Rattle.std.specs.Cmp.{ranks}
use Rattle.std.specs.Cmp.Lexicographic.{slice_cmp}
use Rattle.std.specs.Ordering.{nat_cmp, ordering_then, ordering_reverse, MatchOrdering}
use Rattle.std.proofs.lemmas.Cmp.{nat_list_cmp_total}
use Rattle.std.specs.declared.cmp.Ordering.{Ordering}
use Rattle.std.specs.declared.cmp.Ordering.TheVariants.{Less, Equal, Greater}

-- `leading k bytes` is the number whose digits to the base 256 are the first `k` bytes. A byte that is missing counts as 0.
-- Example: For 2 and the bytes 1, 2, 3 it is 258.
abbrev pub leading : ℕ → List ℕ → ℕ
leading zero bytes = 0
leading (suc k) [] = 0
leading (suc k) (b ∷ bytes) = b * 256 ^ k + leading k bytes

-- `text_head` is the number of the first eight bytes.
-- Example: For the text `ab` it is 97 * 256 ^ 7 + 98 * 256 ^ 6.
abbrev pub text_head : List ℕ → ℕ
text_head bytes = leading 8 bytes

pub leading-8 : (bs : List ℕ) → leading 8 bs ≡ get_or bs 0 0 * 256 ^ 7 + (get_or bs 1 0 * 256 ^ 6 + (get_or bs 2 0 * 256 ^ 5 + (get_or bs 3 0 * 256 ^ 4 + (get_or bs 4 0 * 256 ^ 3 + (get_or bs 5 0 * 256 ^ 2 + (get_or bs 6 0 * 256 + get_or bs 7 0))))))
leading-8 [] = refl
leading-8 (a ∷ []) = omega arith
leading-8 (a ∷ b ∷ []) = omega arith
leading-8 (a ∷ b ∷ c ∷ []) = omega arith
leading-8 (a ∷ b ∷ c ∷ d ∷ []) = omega arith
leading-8 (a ∷ b ∷ c ∷ d ∷ e ∷ []) = omega arith
leading-8 (a ∷ b ∷ c ∷ d ∷ e ∷ f ∷ []) = omega arith
leading-8 (a ∷ b ∷ c ∷ d ∷ e ∷ f ∷ g ∷ []) = omega arith
leading-8 (a ∷ b ∷ c ∷ d ∷ e ∷ f ∷ g ∷ h ∷ bs) = omega arith

-- Each of the numbers is a byte.
-- Example: It holds for 97, 98 and 255.
abbrev pub AreBytes : List ℕ → Type 0
AreBytes bs = (i : ℕ) → get_or bs i 0 < 256

-- a higher digit counts for more than all that is below the lower one
higher_digit : (x y m n P : ℕ) → x < y → m < P → x * P + m < y * P + n
higher_digit x y m n P higher below =
    let next : suc x * P ≤ y * P = mul-le-mul_right P higher in
    let is : suc x * P ≡ x * P + P = suc-mul x P in
    omega (arith, next, is, below)

leading-below : (k : ℕ) (bs : List ℕ) → AreBytes bs → leading k bs < 256 ^ k
leading-below zero bs h = omega arith
leading-below (suc k) [] h = positive (suc k)
  where
    positive : (k : ℕ) → 0 < 256 ^ k
    positive zero = omega arith
    positive (suc k) = let more : 0 < 256 ^ k = positive k in rw (pow-succ' 256 k) (omega (arith, more))
leading-below (suc k) (b ∷ bs) h =
    let below : leading k bs < 256 ^ k = leading-below k bs (λ i. h (suc i)) in
    let digit : b * 256 ^ k + leading k bs < 256 * 256 ^ k + 0 = higher_digit b 256 (leading k bs) 0 (256 ^ k) (h 0) below in
    rw (pow-succ' 256 k) (omega (arith, digit))

-- of two texts the one with the lower number is the lower one
pub lower-leading : (k : ℕ) (xs ys : List ℕ) → AreBytes xs → AreBytes ys → leading k xs < leading k ys → slice_cmp nat_cmp xs ys ≡ Less
lower-leading zero xs ys hx hy lt = absurd (omega (arith, lt))
lower-leading (suc k) [] [] hx hy lt = absurd (omega (arith, lt))
lower-leading (suc k) [] (y ∷ ys) hx hy lt = refl
lower-leading (suc k) (x ∷ xs) [] hx hy lt = absurd (omega (arith, lt))
lower-leading (suc k) (x ∷ xs) (y ∷ ys) hx hy lt = by (nat_cmp x y) (ranks x y) (λ below. lower-leading k xs ys (λ i. hx (suc i)) (λ i. hy (suc i)) below)
  where
    by : (c : Ordering) → MatchOrdering c (x < y) (x ≡ y) (y < x) → (leading k xs < leading k ys → slice_cmp nat_cmp xs ys ≡ Less)
        → ordering_then c (slice_cmp nat_cmp xs ys) ≡ Less
    by Less is rest = refl
    by Equal is rest =
        let same : x * 256 ^ k ≡ y * 256 ^ k = ap (λ (d : ℕ). d * 256 ^ k) is in
        rest (omega (arith, same, lt))
    by Greater is rest =
        let below : leading k ys < 256 ^ k = leading-below k ys (λ i. hy (suc i)) in
        let over : y * 256 ^ k + leading k ys < x * 256 ^ k + leading k xs = higher_digit y x (leading k ys) (leading k xs) (256 ^ k) is below in
        absurd (omega (arith, over, lt))

-- a comparison of the numbers, and then of the texts, is the comparison of the texts
pub headed_cmp : (xs ys : List ℕ) → AreBytes xs → AreBytes ys → ordering_then (nat_cmp (text_head xs) (text_head ys)) (slice_cmp nat_cmp xs ys) ≡ slice_cmp nat_cmp xs ys
headed_cmp xs ys hx hy = by (nat_cmp (text_head xs) (text_head ys)) (ranks (text_head xs) (text_head ys))
  where
    by : (c : Ordering) → MatchOrdering c (text_head xs < text_head ys) (text_head xs ≡ text_head ys) (text_head ys < text_head xs) → ordering_then c (slice_cmp nat_cmp xs ys) ≡ slice_cmp nat_cmp xs ys
    by Less is = sym (lower-leading 8 xs ys hx hy is)
    by Equal is = refl
    by Greater is = sym (nat_list_cmp_total.antisymm xs ys ∙ ap ordering_reverse (lower-leading 8 ys xs hy hx is))

-- heads that differ tell how the texts compare
pub headed_side : (xs ys : List ℕ) (side : Ordering) → AreBytes xs → AreBytes ys → side ≡ nat_cmp (text_head xs) (text_head ys) → (side ≢ Equal) → side ≡ slice_cmp nat_cmp xs ys
headed_side xs ys side hx hy is other = by side is other (headed_cmp xs ys hx hy)
  where
    by : (c : Ordering) → c ≡ nat_cmp (text_head xs) (text_head ys) → (c ≢ Equal) → ordering_then (nat_cmp (text_head xs) (text_head ys)) (slice_cmp nat_cmp xs ys) ≡ slice_cmp nat_cmp xs ys → c ≡ slice_cmp nat_cmp xs ys
    by Less is other whole = ap (λ (c : Ordering). ordering_then c (slice_cmp nat_cmp xs ys)) is ∙ whole
    by Equal is other whole = absurd (other refl)
    by Greater is other whole = ap (λ (c : Ordering). ordering_then c (slice_cmp nat_cmp xs ys)) is ∙ whole
