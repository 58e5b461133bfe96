-- Where the entries that pass a test start.
use Rattle.std.proofs.Common.{◌≡◌, ℕ, Bool, true, false, not, List, [], ◌∷◌, length, get_or, refl, arith}
use Rattle.std.specs.declared.cmp.Ordering.{Ordering}
use Rattle.std.specs.declared.cmp.Ordering.TheVariants.{Less, Equal, Greater}
use Rattle.iddqd_order.specs.Search.{IsLastEqual, IsSplit, IsStartOf, is_past, side_of}

-- where a search by sides ended, there they start
pub IsStartOf-side : {T : Type 0} (compare : T → Ordering) (past : Bool) (xs : List T) (i : ℕ) → IsSplit (λ x. side_of past (compare x)) xs i 0 → IsStartOf (λ x. is_past past (compare x)) xs i
IsStartOf-side compare past xs i gap = record {
  in_range = omega (arith, gap.in_range);
  before = λ j d lt. low past (compare (get_or xs j d)) (gap.below j d lt);
  after = λ j d le lt. high past (compare (get_or xs j d)) (gap.above j d (omega (arith, le)) lt);
}
  where
    low : (p : Bool) (o : Ordering) → side_of p o ≡ Less → is_past p o ≡ false
    low true Less e = refl
    low true Equal e = refl
    low true Greater e = absurd (cc e)
    low false Less e = refl
    low false Equal e = absurd (cc e)
    low false Greater e = absurd (cc e)

    high : (p : Bool) (o : Ordering) → side_of p o ≡ Greater → is_past p o ≡ true
    high true Less e = absurd (cc e)
    high true Equal e = absurd (cc e)
    high true Greater e = refl
    high false Less e = absurd (cc e)
    high false Equal e = refl
    high false Greater e = refl

-- a search by sides finds none
pub never_found : {T : Type 0} (compare : T → Ordering) (past : Bool) (xs : List T) (i : ℕ) → IsLastEqual (λ x. side_of past (compare x)) xs i → ⊥
never_found compare past [] i found = absurd (omega (arith, found.split.in_range))
never_found compare past (x ∷ xs) i found = no_side past (compare (get_or (x ∷ xs) found.first x)) (found.split.equal found.first x (omega arith) (omega arith))
  where
    no_side : (p : Bool) (o : Ordering) → side_of p o ≡ Equal → ⊥
    no_side p Less e = cc e
    no_side true Equal e = cc e
    no_side false Equal e = cc e
    no_side p Greater e = cc e

-- no entry passes a test that each one fails
pub IsStartOf-end : {T : Type 0} (xs : List T) (i : ℕ) → i ≡ length xs → IsStartOf (λ _. not true) xs i
IsStartOf-end xs i is = record { in_range = omega (arith, is); before = λ j d lt. refl; after = λ j d le lt. absurd (omega (arith, is, le, lt)) }
