-- Whether what is sought may stand in the place of an entry, by its neighbours.
use Rattle.std.proofs.Common.{◌≡◌, ℕ, zero, suc, ◌+◌, ◌-◌, ◌<◌, List, [], ◌∷◌, length, get_or, set, refl, sym, ap, ◌∙◌, arith}
use Rattle.std.specs.List.{insert, remove}
use Rattle.std.specs.declared.cmp.Ordering.{Ordering}
use Rattle.std.specs.declared.cmp.Ordering.TheVariants.{Less, Greater}
use Rattle.std.proofs.lemmas.List.Edits.{length-remove, get_or-remove_below, get_or-remove_above}
use Rattle.iddqd_order.specs.Search.{IsSearchable, IsSplit}

module _ {E : Type 0} (xs : List E) (p : ℕ) (lt : p < length xs) where
  pub kept_before : (q : ℕ) (d : E) → q < p → get_or (remove xs p) q d ≡ get_or xs q d
  kept_before q d below = get_or-remove_below xs p d q below lt

  pub kept_behind : (q : ℕ) (d : E) → p < q → get_or (remove xs p) (q - 1) d ≡ get_or xs q d
  kept_behind q d above =
      let on : q - 1 + 1 ≡ q = omega (arith, above) in
      get_or-remove_above xs p d (q - 1) (omega (arith, above)) lt ∙ ap (λ (n : ℕ). get_or xs n d) on

  pub within_before : (q : ℕ) → q < p → q < length (remove xs p)
  within_before q below = omega (arith, below, lt, length-remove xs p lt)

  pub within_behind : (q : ℕ) → p < q → q < length xs → q - 1 < length (remove xs p)
  within_behind q above within = omega (arith, above, within, lt, length-remove xs p lt)

  module _ (order : E → Ordering) (s : IsSearchable order (remove xs p)) where
    -- the entries up to a lower one are lower
    pub lower_to : (q : ℕ) → q + 1 ≡ p → ((d : E) → order (get_or xs q d) ≡ Less) → (j : ℕ) (d : E) → j < p → order (get_or xs j d) ≡ Less
    lower_to q next low j d below =
        let here = ap order (kept_before q d (omega (arith, next))) ∙ low d in
        sym (ap order (kept_before j d below)) ∙ s.less j q d (omega (arith, next, below)) (within_before q (omega (arith, next))) here

    -- the entries from a higher one on are higher
    pub higher_from : (q : ℕ) → q ≡ p + 1 → q < length xs → ((d : E) → order (get_or xs q d) ≡ Greater) → (j : ℕ) (d : E) → p < j → j < length xs → order (get_or xs j d) ≡ Greater
    higher_from q next within high j d above less =
        let here = ap order (kept_behind q d (omega (arith, next))) ∙ high d in
        sym (ap order (kept_behind j d above)) ∙ s.greater (q - 1) (j - 1) d (omega (arith, next, above)) (within_behind j above less) here

-- what takes the place of another goes in where that was
pub set-moved : {A : Type 0} (xs : List A) (i : ℕ) (y : A) → i < length xs → set xs i y ≡ insert (remove xs i) i y
set-moved [] i y lt = absurd (omega (arith, lt))
set-moved (x ∷ xs) zero y lt = refl
set-moved {A} (x ∷ xs) (suc i) y lt = ap (λ (q : List A). x ∷ q) (set-moved xs i y (omega (arith, lt)))

-- the gap that an item leaves is one for another that its neighbours do not pass
pub gap_left : {T : Type 0} (compare : T → Ordering) (xs : List T) (i : ℕ) → i < length xs → ((j : ℕ) (d : T) → j < i → compare (get_or xs j d) ≡ Less)
    → ((j : ℕ) (d : T) → i < j → j < length xs → compare (get_or xs j d) ≡ Greater) → IsSplit compare (remove xs i) i 0
gap_left compare xs i lt low high =
    let len = length-remove xs i lt in
    record {
      in_range = omega (arith, len, lt);
      below = λ j d less. ap compare (get_or-remove_below xs i d j less lt) ∙ low j d less;
      equal = λ j d le less. absurd (omega (arith, le, less));
      above = λ j d le less. ap compare (get_or-remove_above xs i d j (omega (arith, le)) lt) ∙ high (j + 1) d (omega (arith, le)) (omega (arith, len, less));
    }
