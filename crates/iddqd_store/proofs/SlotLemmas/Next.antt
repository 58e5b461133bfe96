-- An iteration over the slots, in which the items that a test rejects are removed.
use Rattle.std.specs.Prelude.{◌≡◌, ◌≤◌, ◌<◌, ℕ, zero, suc, ◌+◌, Bool, true, false, cond, List, [], ◌∷◌, ◌++◌, take, drop, Option, Some, None}
use Rattle.std.specs.List.Retain.{IsFiltered}
use Rattle.std.proofs.Common.{refl, sym, ap, subst, ◌∙◌, arith, set, append_assoc, add-one}
use Rattle.std.proofs.lemmas.List.Sorted.{IsPermutation-refl}
use Rattle.iddqd_store.specs.Bag.{Keeps}
use Rattle.iddqd_store.specs.Slots.{contents, get}
use Rattle.iddqd_store.specs.Slots.Next.{ComesNext}

module _ {T : Type 0} where
  -- if every slot from a number on is free, no items are left
  pub nothing_left : (slots : List (Option T)) (from : ℕ) → ((k : ℕ) → from ≤ k → get slots k ≡ None) → contents (drop from slots) ≡ []
  nothing_left [] zero free = refl
  nothing_left [] (suc from) free = refl
  nothing_left (Some x ∷ slots) zero free = absurd (cc (free 0 (omega arith)))
  nothing_left (None ∷ slots) zero free = nothing_left slots zero (λ k le. free (suc k) (omega arith))
  nothing_left (o ∷ slots) (suc from) free = nothing_left slots from (λ k le. free (suc k) (omega arith))

  -- the slot is below the number of slots, and the items before it and in it
  got : (slots : List (Option T)) (at : ℕ) (x : T) → get slots at ≡ Some x
      → (contents (drop at slots) ≡ x ∷ contents (drop (suc at) slots)) × (contents (take (suc at) slots) ≡ contents (take at slots) ++ x ∷ [])
  got [] zero x is = absurd (cc is)
  got [] (suc at) x is = absurd (cc is)
  got (Some y ∷ slots) zero x is =
      let same : y ≡ x = cc is in
      rw same (refl, refl)
  got (None ∷ slots) zero x is = absurd (cc is)
  got (None ∷ slots) (suc at) x is = got slots at x is
  got (Some y ∷ slots) (suc at) x is =
      let below = got slots at x is in
      (below.0, ap (λ l. y ∷ l) below.1)

  -- free slots in between have no items
  passed : (slots : List (Option T)) (from at : ℕ) → from ≤ at → ((k : ℕ) → from ≤ k → k < at → get slots k ≡ None)
      → (contents (drop from slots) ≡ contents (drop at slots)) × (contents (take at slots) ≡ contents (take from slots))
  passed [] zero zero ahead free = (refl, refl)
  passed [] zero (suc at) ahead free = (refl, refl)
  passed [] (suc from) zero ahead free = absurd (omega (arith, ahead))
  passed [] (suc from) (suc at) ahead free = (refl, refl)
  passed (o ∷ slots) zero zero ahead free = (refl, refl)
  passed (o ∷ slots) (suc from) zero ahead free = absurd (omega (arith, ahead))
  passed (Some x ∷ slots) zero (suc at) ahead free = absurd (cc (free 0 (omega arith) (omega arith)))
  passed (None ∷ slots) zero (suc at) ahead free = passed slots zero at (omega arith) (λ k le lt. free (suc k) (omega arith) (omega (arith, lt)))
  passed (None ∷ slots) (suc from) (suc at) ahead free = passed slots from at (omega (arith, ahead)) (λ k le lt. free (suc k) (omega (arith, le)) (omega (arith, lt)))
  passed (Some x ∷ slots) (suc from) (suc at) ahead free =
      let below = passed slots from at (omega (arith, ahead)) (λ k le lt. free (suc k) (omega (arith, le)) (omega (arith, lt))) in
      (below.0, ap (λ l. x ∷ l) below.1)

  pub comes_next : (slots : List (Option T)) (from at : ℕ) (x : T) → from ≤ at → get slots at ≡ Some x → ((k : ℕ) → from ≤ k → k < at → get slots k ≡ None) → ComesNext slots from at x
  comes_next slots from at x ahead is free =
      let over = passed slots from at ahead free in
      record { ahead = ahead; value = is; rest = rw (add-one at) (over.0 ∙ (got slots at x is).0); before = over.1 }

  -- a free slot has no item
  pub over_free : (slots : List (Option T)) (at : ℕ) → get slots at ≡ None → (contents (drop at slots) ≡ contents (drop (at + 1) slots)) × (contents (take (at + 1) slots) ≡ contents (take at slots))
  over_free slots at is = passed slots at (at + 1) (omega arith) (λ k le lt. let here : k ≡ at = omega (arith, le, lt) in rw here is)

  -- the items before a slot that is taken, those after a slot that is emptied, and all of them
  pub taken_before : (slots : List (Option T)) (from at : ℕ) (x : T) → ComesNext slots from at x → contents (take (at + 1) slots) ≡ contents (take from slots) ++ x ∷ []
  taken_before slots from at x next = rw (add-one at) ((got slots at x next.value).1 ∙ ap (λ l. l ++ x ∷ []) next.before)

  emptied : (slots : List (Option T)) (at : ℕ) → (contents (take (suc at) (set slots at None)) ≡ contents (take at slots)) × (drop (suc at) (set slots at None) ≡ drop (suc at) slots)
  emptied [] zero = (refl, refl)
  emptied [] (suc at) = (refl, refl)
  emptied (o ∷ slots) zero = (refl, refl)
  emptied (None ∷ slots) (suc at) = emptied slots at
  emptied (Some x ∷ slots) (suc at) =
      let below = emptied slots at in
      (ap (λ l. x ∷ l) below.0, below.1)

  pub emptied_before : (slots : List (Option T)) (from at : ℕ) (x : T) → ComesNext slots from at x → contents (take (at + 1) (set slots at None)) ≡ contents (take from slots)
  emptied_before slots from at x next = rw (add-one at) ((emptied slots at).0 ∙ next.before)

  pub same_behind : (slots : List (Option T)) (at : ℕ) → contents (drop (at + 1) (set slots at None)) ≡ contents (drop (at + 1) slots)
  same_behind slots at = rw (add-one at) (ap contents (emptied slots at).1)

  pub before_and_behind : (slots : List (Option T)) (from : ℕ) → contents (take from slots) ++ contents (drop from slots) ≡ contents slots
  before_and_behind [] zero = refl
  before_and_behind [] (suc from) = refl
  before_and_behind (o ∷ slots) zero = refl
  before_and_behind (None ∷ slots) (suc from) = before_and_behind slots from
  before_and_behind (Some x ∷ slots) (suc from) = ap (λ l. x ∷ l) (before_and_behind slots from)

module _ {F T : Type 0} (step : F → T → Bool → F → Type 0) where
  -- one more call before the others
  pub filtered_on : (f g : F) (x : T) (b : Bool) (xs ys : List T) → step f x b g → IsFiltered step g xs ys → IsFiltered step f (x ∷ xs) (cond b (x ∷ ys) ys)
  filtered_on f g x true xs ys called (bs, last, long, told, are) = (true ∷ bs, last, ap suc long, (g, called, told), ap (λ l. x ∷ l) are)
  filtered_on f g x false xs ys called (bs, last, long, told, are) = (false ∷ bs, last, ap suc long, (g, called, told), are)

  pub filtered_none : (f : F) → IsFiltered step f [] []
  filtered_none f = ([], f, refl, refl, refl)

  pub keeps_filtered : (f : F) (old new : List (Option T)) → IsFiltered step f (contents old) (contents new) → Keeps step f (contents old) (contents new)
  keeps_filtered f old new filtered =
      record { listed = contents old; same = IsPermutation-refl (contents old); left = contents new; filtered = filtered; are = IsPermutation-refl (contents new) }

  -- what a test has left so far and what it leaves of the rest make what it leaves of all, after a step past an item
  -- that stays, and after one past an item that is removed
  abbrev pub Completes : F → List T → F → List (Option T) → ℕ → Type 0
  Completes start all f slots from = (rest : List T) → IsFiltered step f (contents (drop from slots)) rest → IsFiltered step start all (contents (take from slots) ++ rest)

  pub past_kept : (start f g : F) (all : List T) (slots : List (Option T)) (from at : ℕ) (x : T) → ComesNext slots from at x → step f x true g
      → Completes start all f slots from → Completes start all g slots (at + 1)
  past_kept start f g all slots from at x next called completes rest h =
      let on = filtered_on f g x true (contents (drop (at + 1) slots)) rest called h in
      let whole = completes (x ∷ rest) (subst (λ l. IsFiltered step f l (x ∷ rest)) (sym next.rest) on) in
      subst (λ l. IsFiltered step start all l) (sym (ap (λ l. l ++ rest) (taken_before slots from at x next) ∙ append_assoc (contents (take from slots)) (x ∷ []) rest)) whole

  pub past_taken : (start f g : F) (all : List T) (slots : List (Option T)) (from at : ℕ) (x : T) → ComesNext slots from at x → step f x false g
      → Completes start all f slots from → Completes start all g (set slots at None) (at + 1)
  past_taken start f g all slots from at x next called completes rest h =
      let on = filtered_on f g x false (contents (drop (at + 1) slots)) rest called (subst (λ l. IsFiltered step g l rest) (same_behind slots at) h) in
      let whole = completes rest (subst (λ l. IsFiltered step f l rest) (sym next.rest) on) in
      subst (λ l. IsFiltered step start all (l ++ rest)) (sym (emptied_before slots from at x next)) whole

  pub none_behind : (start f : F) (old slots : List (Option T)) (from : ℕ) → contents (drop from slots) ≡ []
      → Completes start (contents old) f slots from → Keeps step start (contents old) (contents slots)
  none_behind start f old slots from none completes =
      let whole = completes [] (subst (λ l. IsFiltered step f l []) (sym none) (filtered_none f)) in
      keeps_filtered start old slots
      (subst (λ l. IsFiltered step start (contents old) l) (ap (λ l. contents (take from slots) ++ l) (sym none) ∙ before_and_behind slots from) whole)
