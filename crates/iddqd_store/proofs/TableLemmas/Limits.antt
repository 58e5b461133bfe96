-- Limits, and a row of empty cells.
use Rattle.std.proofs.Common.{◌≡◌, ℕ, suc, zero, ◌+◌, ◌-◌, ◌%◌, ◌*◌, ◌/◌, ◌^◌, ◌<◌, ◌≤◌, [], Option, None, Some, length, replicate, refl, sym, ap, ◌∙◌, subst, inr, ⊎_elim, arith, rules}
use Rattle.std.specs.Prelude.{◌≢◌, ◌↔◌, max, IsSome, nat_lt, if◌then◌else◌}
use Rattle.std.specs.Int.Bits.{bit_and}
use Rattle.std.proofs.lemmas.Bool.Decides.{nat_tests}
use Rattle.std.proofs.Math.Nat.{add-mul-mod_self_left, mod-eq_of_lt, mod_self, mul-suc}
use Rattle.std.proofs.Math.Pow.{pow_mono}
use Rattle.std.proofs.lemmas.Nat.{and_mask, pow-add, pow_below, pow_pos}
use Rattle.std.proofs.lemmas.List.{length-replicate}
use Rattle.iddqd_store.specs.Slots.{contents}
use Rattle.iddqd_store.specs.Table.Ring.{gap, cell}
use Rattle.iddqd_store.specs.Table.Limit.{IsLeast, IsSize, most_room}
use Rattle.iddqd_store.specs.Table.{IsTable}
use Rattle.iddqd_store.proofs.Plain.{by_order}

pub doubled : (k : ℕ) → 2 ^ (k + 1) ≡ 2 * 2 ^ k
doubled k = let e : 2 ^ (k + 1) ≡ 2 ^ k * 2 = pow-add 2 k 1 in omega arith

pub least_found : (m k n : ℕ) → 0 < m → n ≡ 8 * 2 ^ k → m ≤ 7 * 2 ^ k → ((j : ℕ) → j < k → 7 * 2 ^ j < m) → IsLeast m (n / 8 * 7)
least_found m k n pos e enough before =
    let d : n / 8 * 7 ≡ 7 * 2 ^ k = omega arith in
    record {
      limit = inr (k, d);
      enough = omega arith;
      least = λ j is h. ⊎_elim (λ (z : j ≡ 0). absurd (omega arith))
          (λ (p : (i : ℕ) × (j ≡ 7 * 2 ^ i)).
          by_order p.0 k (λ (l : p.0 < k). let b = before p.0 l in absurd (omega (arith, b, p.1)))
          (λ (l : k ≤ p.0).
          by_order k p.0 (λ (s : k < p.0). let b = pow_below k p.0 s in omega (arith, b, p.1))
          (λ (s : p.0 ≤ k). let same : p.0 ≡ k = omega arith in let b : 2 ^ p.0 ≡ 2 ^ k = ap (λ (i : ℕ). 2 ^ i) same in omega (arith, b, p.1))))
          is;
    }

-- the least limit for so many pairs is below twice as many, or the lowest one
pub least_most : (m l : ℕ) → IsLeast m l → l ≤ max (2 * m) 7
least_most m l least = ⊎_elim (λ (none : l ≡ 0). omega (arith, none)) (λ (p : (k : ℕ) × (l ≡ 7 * 2 ^ k)). of_power p.0 p.1) least.limit
  where
    of_power : (k : ℕ) → l ≡ 7 * 2 ^ k → l ≤ max (2 * m) 7
    of_power k is =
        by_order k 1
        (λ (lowest : k < 1). let zero : k ≡ 0 = omega (arith, lowest) in let e : 2 ^ k ≡ 2 ^ 0 = ap (λ (i : ℕ). 2 ^ i) zero in omega (arith, is, e))
        (λ (higher : 1 ≤ k).
        let same : k ≡ (k - 1) + 1 = omega (arith, higher) in
        let e : 2 ^ k ≡ 2 * 2 ^ (k - 1) = ap (λ (i : ℕ). 2 ^ i) same ∙ doubled (k - 1) in
        by_order (7 * 2 ^ (k - 1)) m (λ (less : 7 * 2 ^ (k - 1) < m). omega (arith, is, e, less))
        (λ (holds : m ≤ 7 * 2 ^ (k - 1)). let le = least.least (7 * 2 ^ (k - 1)) (inr (k - 1, refl)) holds in omega (arith, is, e, le, pow_pos (k - 1))))

pub held_items-empty : {X : Type 0} (n : ℕ) → contents {T = X} (replicate n None) ≡ []
held_items-empty zero = refl
held_items-empty (suc n) = held_items-empty n

pub cell-empty : {X : Type 0} (n k : ℕ) → cell {X = X} (replicate n None) k ≡ None
cell-empty zero k = refl
cell-empty (suc n) zero = refl
cell-empty (suc n) (suc k) = cell-empty n k

pub table_empty : (n : ℕ) → IsSize n → IsTable (replicate n None)
table_empty n size = record {
  size = rw length-replicate size;
  fits = rw held_items-empty (omega arith);
  reached = λ q x l is i li way z. let e : cell {X = ℕ × ℕ} (replicate n None) q ≡ None = cell-empty n q in cc (e, is);
}

pub length_held_empty : (n : ℕ) → 0 ≡ length (contents {T = ℕ × ℕ} (replicate n None))
length_held_empty n = sym (ap length (held_items-empty {X = ℕ × ℕ} n))

pub some_not_none : {X : Type 0} (o : Option X) → IsSome o ↔ (o ≢ None)
some_not_none None = (λ s. search rules, λ n. absurd (n refl))
some_not_none (Some x) = (λ s e. cc e, λ n. search rules)

-- a mask is the same as a division
pub mask_home : (hash count : ℕ) → IsSize count → 0 < count → bit_and hash (count - 1) ≡ hash % count
mask_home hash count size some =
    ⊎_elim (λ (none : count ≡ 0). absurd (omega arith))
    (λ (p : (k : ℕ) × (count ≡ 8 * 2 ^ k)).
    let e : 2 ^ (3 + p.0) ≡ 2 ^ 3 * 2 ^ p.0 = pow-add 2 3 p.0 in
    let f : 2 ^ (3 + p.0) ≡ count = omega (arith, e, p.1) in
    subst (λ (n : ℕ). bit_and hash (n - 1) ≡ hash % n) f (and_mask hash (3 + p.0)))
    size

-- the same for the next place of a ring
pub mask_after : (at n : ℕ) → IsSize n → at < n → bit_and (at + 1) (n - 1) ≡ (if nat_lt (at + 1) n then at + 1 else 0)
mask_after at n size l =
    let m : bit_and (at + 1) (n - 1) ≡ (at + 1) % n = mask_home (at + 1) n size (omega arith) in
    by_order (at + 1) n (λ (h : at + 1 < n).
    let e : (at + 1) % n ≡ at + 1 = mod-eq_of_lt h in
    let g : at + 1 ≡ (if nat_lt (at + 1) n then at + 1 else 0) = grind (arith, nat_tests) in
    m ∙ (e ∙ g))
    (λ (h : n ≤ at + 1).
    let same : at + 1 ≡ n = omega arith in
    let e : (at + 1) % n ≡ 0 = ap (λ (k : ℕ). k % n) same ∙ mod_self n in
    let g : 0 ≡ (if nat_lt (at + 1) n then at + 1 else 0) = grind (arith, nat_tests) in
    m ∙ (e ∙ g))

one_less : (n r : ℕ) → 0 < r → n * r ≡ n + n * (r - 1)
one_less n r some =
    let e : suc (r - 1) ≡ r = omega arith in
    subst (λ (m : ℕ). n * m ≡ n + n * (r - 1)) e (let m = mul-suc n (r - 1) in omega (arith, m))

-- 2 ^ 64 is a multiple of a ring's size
rounds : (n : ℕ) → IsSize n → n < 2 ^ 64 → 0 < n → (q : ℕ) × (2 ^ 64 ≡ n + n * q)
rounds n size fits some =
    ⊎_elim (λ (none : n ≡ 0). absurd (omega arith))
    (λ (p : (k : ℕ) × (n ≡ 8 * 2 ^ k)).
    by_order p.0 61 (λ (few : p.0 < 61).
    let r : ℕ = 2 ^ (61 - p.0) in
    let s : p.0 + (61 - p.0) ≡ 61 = omega arith in
    let e : 2 ^ 61 ≡ 2 ^ p.0 * r = subst (λ (i : ℕ). 2 ^ i ≡ 2 ^ p.0 * r) s (pow-add 2 p.0 (61 - p.0)) in
    let t : 2 ^ 64 ≡ n * r = rw p.1 (grind (arith, e)) in
    (r - 1, t ∙ one_less n r (pow_pos (61 - p.0))))
    (λ (many : 61 ≤ p.0). let b : 2 ^ 61 ≤ 2 ^ p.0 = pow_mono many in absurd (omega (arith, b, p.1))))
    size

-- the same for a difference, which wraps around at 2 ^ 64 if it would be below 0
pub mask_steps : (a b n : ℕ) → IsSize n → n < 2 ^ 64 → a < n → b < n → bit_and ((b + (2 ^ 64 - a)) % 2 ^ 64) (n - 1) ≡ gap n a b
mask_steps a b n size fits la lb =
    let m : bit_and ((b + (2 ^ 64 - a)) % 2 ^ 64) (n - 1) ≡ (b + (2 ^ 64 - a)) % 2 ^ 64 % n = mask_home ((b + (2 ^ 64 - a)) % 2 ^ 64) n size (omega arith) in
    by_order b a (λ (h : b < a).
    let f = rounds n size fits (omega arith) in
    let w : (b + (2 ^ 64 - a)) % 2 ^ 64 ≡ ((b + n) - a) + n * f.0 = omega (arith, f.1) in
    let r : (((b + n) - a) + n * f.0) % n ≡ ((b + n) - a) % n = add-mul-mod_self_left ((b + n) - a) n f.0 in
    let e : ((b + n) - a) % n ≡ (b + n) - a = mod-eq_of_lt (omega arith) in
    let g : (b + n) - a ≡ gap n a b = grind (arith, nat_tests) in
    m ∙ (ap (λ (k : ℕ). k % n) w ∙ (r ∙ (e ∙ g))))
    (λ (h : a ≤ b).
    let w : (b + (2 ^ 64 - a)) % 2 ^ 64 ≡ b - a = omega arith in
    let e : (b - a) % n ≡ b - a = mod-eq_of_lt (omega arith) in
    let g : b - a ≡ gap n a b = grind (arith, nat_tests) in
    m ∙ (ap (λ (k : ℕ). k % n) w ∙ (e ∙ g)))

-- no more pairs than these fit into cells that a `usize` counts
pub size_most : (n : ℕ) → IsSize n → n < 2 ^ 64 → n / 8 * 7 ≤ most_room
size_most n size fits =
    ⊎_elim (λ (none : n ≡ 0). omega arith)
    (λ (p : (k : ℕ) × (n ≡ 8 * 2 ^ k)).
    by_order p.0 61 (λ (few : p.0 < 61). let l : p.0 ≤ 60 = omega arith in let b : 2 ^ p.0 ≤ 2 ^ 60 = pow_mono l in omega (arith, b, p.1))
    (λ (many : 61 ≤ p.0). let b : 2 ^ 61 ≤ 2 ^ p.0 = pow_mono many in absurd (omega (arith, b, p.1))))
    size

pub size_eighths : (n : ℕ) → IsSize n → n ≡ n / 8 * 8
size_eighths n size = ⊎_elim (λ (none : n ≡ 0). omega arith) (λ (p : (k : ℕ) × (n ≡ 8 * 2 ^ k)). omega (arith, p.1)) size

-- a table has the least limit for this many pairs exactly if it has as many cells as one that is made for them
pub made_for : (pairs n least : ℕ) → IsSize n → IsSize least → IsLeast pairs (least / 8 * 7) → (n ≡ least) ↔ IsLeast pairs (n / 8 * 7)
made_for pairs n least size size_of is = (
  λ same. subst (λ (m : ℕ). IsLeast pairs (m / 8 * 7)) (sym same) is,
  λ other. omega (arith, size_eighths n size, size_eighths least size_of, is.least (n / 8 * 7) other.limit other.enough, other.least (least / 8 * 7) is.limit is.enough),
)
