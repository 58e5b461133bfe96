-- What the slots of a row have, or its cells, and what a write of one of them changes.
use Rattle.std.proofs.Common.{◌≡◌, ℕ, zero, suc, ◌+◌, ◌<◌, List, [], ◌∷◌, map, length, Option, Some, None, is_some, refl, sym, ap, subst, ◌∙◌, arith, cond, get_or, set}
use Rattle.std.specs.Prelude.{IsPermutation, Contains}
use Rattle.std.proofs.lemmas.List.{get_or_past, get_or-set_same, length-set, set-get_or, set-set}
use Rattle.std.proofs.lemmas.List.Sorted.{IsPermutation-refl, IsPermutation-sym, IsPermutation-cons, IsPermutation-trans, IsPermutation-middle, IsPermutation-map}
use Rattle.std.proofs.lemmas.List.Sums.{sum_by-cons}
use Rattle.iddqd_store.specs.Slots.{contents, get, live_count, members_from, members}

module _ {T : Type 0} where
  pub length-contents : (row : List (Option T)) → length (contents row) ≡ live_count row
  length-contents [] = refl
  length-contents (None ∷ rest) = omega (arith, length-contents rest, sum_by-cons (λ o. cond (is_some o) 1 0) None rest)
  length-contents (Some x ∷ rest) = omega (arith, length-contents rest, sum_by-cons (λ o. cond (is_some o) 1 0) (Some x) rest)

  -- what a slot or a cell has is in the row
  pub content_at : (row : List (Option T)) (at : ℕ) (x : T) → get row at ≡ Some x → Contains (contents row) x
  content_at [] at x is = absurd (cc is)
  content_at (None ∷ row) zero x is = absurd (cc is)
  content_at (None ∷ row) (suc at) x is = content_at row at x is
  content_at (Some y ∷ row) zero x is = (0, omega arith, cc is)
  content_at (Some y ∷ row) (suc at) x is = let later : Contains (contents row) x = content_at row at x is in (suc later.0, omega arith, later.2)

  -- if no slot is free, the row has exactly the items
  pub contents-all : (xs : List T) → contents (map Some xs) ≡ xs
  contents-all [] = refl
  contents-all (x ∷ xs) = ap (λ rest. x ∷ rest) (contents-all xs)

  -- something is put where nothing was
  pub contents-put : (row : List (Option T)) (at : ℕ) (x : T) → at < length row → get row at ≡ None → IsPermutation (x ∷ contents row) (contents (set row at (Some x)))
  contents-put [] at x within free = absurd (omega arith)
  contents-put (None ∷ row) zero x within free = IsPermutation-refl (x ∷ contents row)
  contents-put (None ∷ row) (suc at) x within free = contents-put row at x (omega arith) free
  contents-put (Some y ∷ row) zero x within free = absurd (cc free)
  contents-put (Some y ∷ row) (suc at) x within free =
      IsPermutation-trans _ _ _ (IsPermutation-middle (x ∷ []) y (contents row)) (IsPermutation-cons y (x ∷ contents row) (contents (set row at (Some x))) (contents-put row at x (omega arith) free))

  -- something is put in place of what was there
  pub contents-set : (row : List (Option T)) (at : ℕ) (x : T) → at < length row → IsPermutation (contents (set row at (Some x))) (x ∷ contents (set row at None))
  contents-set row at x within =
      let put : IsPermutation (x ∷ contents (set row at None)) (contents (set (set row at None) at (Some x))) =
      contents-put (set row at None) at x (rw length-set within) (get_or-set_same row at None None within) in
      IsPermutation-sym _ _ (subst (λ (r : List (Option T)). IsPermutation (x ∷ contents (set row at None)) (contents r)) (set-set row at None (Some x)) put)

  -- what was there is taken
  pub contents-take : (row : List (Option T)) (at : ℕ) (x : T) → get row at ≡ Some x → IsPermutation (contents row) (x ∷ contents (set row at None))
  contents-take row at x is =
      let there : get_or row at None ≡ Some x = is in
      let within : at < length row = grind (arith, get_or_past) in
      let same : set row at (Some x) ≡ row = ap (set row at) (sym is) ∙ set-get_or row at None in
      subst (λ (r : List (Option T)). IsPermutation (contents r) (x ∷ contents (set row at None))) same (contents-set row at x within)

  members_from-contents : (first : ℕ) (row : List (Option T)) → map (λ m. m.1) (members_from first row) ≡ contents row
  members_from-contents first [] = refl
  members_from-contents first (None ∷ rest) = members_from-contents (first + 1) rest
  members_from-contents first (Some x ∷ rest) = ap (λ l. x ∷ l) (members_from-contents (first + 1) rest)

  -- the members without their numbers
  pub contents-members : (row : List (Option T)) → map (λ m. m.1) (members row) ≡ contents row
  contents-members row = members_from-contents 0 row

  pub contents-listed : (row : List (Option T)) (listed : List (ℕ × T)) → IsPermutation (members row) listed → IsPermutation (contents row) (map (λ m. m.1) listed)
  contents-listed row listed same = subst (λ l. IsPermutation l (map (λ m. m.1) listed)) (contents-members row) (IsPermutation-map (λ m. m.1) _ _ same)

  -- one member leaves, or comes
  pub contents-moves : (old new : List (Option T)) (at : ℕ) (x : T) → IsPermutation (members old) ((at, x) ∷ members new) → IsPermutation (contents old) (x ∷ contents new)
  contents-moves old new at x moved = subst (λ l. IsPermutation (contents old) (x ∷ l)) (contents-members new) (contents-listed old _ moved)
