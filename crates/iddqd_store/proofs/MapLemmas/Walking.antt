-- An iteration over the items, in which each may be written.
use Rattle.std.specs.Prelude.{◌≡◌, ◌≤◌, ◌<◌, ℕ, zero, suc, ◌+◌, List, [], ◌∷◌, ◌++◌, take, drop, Option, Some, None, IsSome, slice_set}
use Rattle.std.specs.Option.{option_map}
use Rattle.std.proofs.Common.{refl, ap, ◌∙◌, arith, add-one}
use Rattle.iddqd_store.specs.Map.{Map}
use Rattle.iddqd_store.specs.Map.Walk.{Passes, first_from}
use Rattle.iddqd_store.specs.Map.Written.{map_with}
use Rattle.iddqd_store.specs.Slots.{contents, get}
use Rattle.iddqd_store.specs.Slots.Next.{ComesNext}

module _ {T : Type 0} where
  filled : (slots : List (Option T)) (at : ℕ) (x y : T) → get slots at ≡ Some x → (contents (take (suc at) (slice_set slots at (Some y)))
      ≡ contents (take at slots) ++ y ∷ []) × (drop (suc at) (slice_set slots at (Some y)) ≡ drop (suc at) slots)
  filled [] zero x y is = absurd (cc is)
  filled [] (suc at) x y is = absurd (cc is)
  filled (o ∷ slots) zero x y is = (refl, refl)
  filled (None ∷ slots) (suc at) x y is = filled slots at x y is
  filled (Some z ∷ slots) (suc at) x y is =
      let below = filled slots at x y is in
      (ap (λ l. z ∷ l) below.0, below.1)

  -- the next item is passed, however it is written
  pub passes : {S : Type 0} (m : Map T S) (from at : ℕ) (x : T) → ComesNext m.slots from at x → Passes m from x (λ f. map_with m at f) (at + 1)
  passes m from at x next = record {
    comes = next.rest;
    before = λ f. rw (next.value, add-one at) ((filled m.slots at x (f x) next.value).0 ∙ ap (λ l. l ++ f x ∷ []) next.before);
    behind = λ f. rw (next.value, add-one at) (ap contents (filled m.slots at x (f x) next.value).1);
  }

  -- the slot of the next item
  pub first_is : (slots : List (Option T)) (from at : ℕ) (x : T) → from ≤ at → get slots at ≡ Some x → ((k : ℕ) → from ≤ k → k < at → get slots k ≡ None) → first_from slots from ≡ Some at
  first_is [] from zero x ahead is free = absurd (cc is)
  first_is [] from (suc at) x ahead is free = absurd (cc is)
  first_is (None ∷ slots) zero zero x ahead is free = absurd (cc is)
  first_is (Some y ∷ slots) zero zero x ahead is free = refl
  first_is (o ∷ slots) (suc from) zero x ahead is free = absurd (omega (arith, ahead))
  first_is (Some y ∷ slots) zero (suc at) x ahead is free = absurd (cc (free 0 (omega arith) (omega arith)))
  first_is (None ∷ slots) zero (suc at) x ahead is free =
      ap (option_map suc) (first_is slots zero at x (omega arith) is (λ k le lt. free (suc k) (omega arith) (omega (arith, lt))))
  first_is (None ∷ slots) (suc from) (suc at) x ahead is free =
      ap (option_map suc) (first_is slots from at x (omega (arith, ahead)) is (λ k le lt. free (suc k) (omega (arith, le)) (omega (arith, lt))))
  first_is (Some y ∷ slots) (suc from) (suc at) x ahead is free =
      ap (option_map suc) (first_is slots from at x (omega (arith, ahead)) is (λ k le lt. free (suc k) (omega (arith, le)) (omega (arith, lt))))

  pub live_is : (o : Option T) → IsSome o → (x : T) × (o ≡ Some x)
  live_is None some = absurd (cc)
  live_is (Some x) some = (x, refl)
