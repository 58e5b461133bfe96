-- Going over a list in turn, where each step keeps an element or removes it.
use Rattle.std.proofs.Common.{◌≡◌, ℕ, zero, suc, ◌+◌, ◌<◌, ◌≤◌, Bool, true, false, List, [], ◌∷◌, ◌++◌, length, get_or, take, drop, refl, sym, ap, subst, ◌∙◌, add-one, append_assoc}
use Rattle.std.specs.List.{remove}
use Rattle.std.specs.List.Retain.{IsFiltered}
use Rattle.std.proofs.lemmas.List.{append-nil, drop_more, drop_all, take_all, take_more}
use Rattle.iddqd_store.proofs.SlotLemmas.Next.{filtered_on, filtered_none}

drop_removed : {T : Type 0} (xs : List T) (i : ℕ) → drop i (remove xs i) ≡ drop (suc i) xs
drop_removed [] zero = refl
drop_removed [] (suc i) = refl
drop_removed (x ∷ xs) zero = refl
drop_removed (x ∷ xs) (suc i) = drop_removed xs i

pub drop-removed : {T : Type 0} (xs : List T) (i : ℕ) → drop i (remove xs i) ≡ drop (i + 1) xs
drop-removed xs i = rw add-one (drop_removed xs i)

pub take-removed : {T : Type 0} (xs : List T) (i : ℕ) → take i (remove xs i) ≡ take i xs
take-removed [] zero = refl
take-removed [] (suc i) = refl
take-removed (x ∷ xs) zero = refl
take-removed (x ∷ xs) (suc i) = ap (λ l. x ∷ l) (take-removed xs i)

pub drop_here : {T : Type 0} (xs : List T) (at : ℕ) (x : T) → at < length xs → x ≡ get_or xs at x → drop at xs ≡ x ∷ drop (at + 1) xs
drop_here {T} xs at x lt is = drop_more xs at x lt ∙ ap (λ (y : T). y ∷ drop (at + 1) xs) (sym is)

module _ {F T : Type 0} (step : F → T → Bool → F → Type 0) where
  -- what a test has left so far and what it leaves of the rest make what it leaves of all
  abbrev pub Completes : F → List T → F → List T → ℕ → Type 0
  Completes start all f xs at = (rest : List T) → IsFiltered step f (drop at xs) rest → IsFiltered step start all (take at xs ++ rest)

  pub past_kept : (start f g : F) (all xs : List T) (at : ℕ) (x : T) → at < length xs → x ≡ get_or xs at x → step f x true g
      → Completes start all f xs at → Completes start all g xs (at + 1)
  past_kept start f g all xs at x lt is called completes rest h =
      let on = filtered_on step f g x true (drop (at + 1) xs) rest called h in
      let whole = completes (x ∷ rest) (subst (λ (l : List T). IsFiltered step f l (x ∷ rest)) (sym (drop_here xs at x lt is)) on) in
      let before : take (at + 1) xs ≡ take at xs ++ x ∷ [] = take_more xs at x lt ∙ ap (λ (y : T). take at xs ++ y ∷ []) (sym is) in
      subst (λ (l : List T). IsFiltered step start all l) (sym (ap (λ (l : List T). l ++ rest) before ∙ append_assoc (take at xs) (x ∷ []) rest)) whole

  pub past_taken : (start f g : F) (all xs : List T) (at : ℕ) (x : T) → at < length xs → x ≡ get_or xs at x → step f x false g
      → Completes start all f xs at → Completes start all g (remove xs at) at
  past_taken start f g all xs at x lt is called completes rest h =
      let on = filtered_on step f g x false (drop (at + 1) xs) rest called (subst (λ (l : List T). IsFiltered step g l rest) (drop-removed xs at) h) in
      let whole = completes rest (subst (λ (l : List T). IsFiltered step f l rest) (sym (drop_here xs at x lt is)) on) in
      subst (λ (l : List T). IsFiltered step start all (l ++ rest)) (sym (take-removed xs at)) whole

  pub none_behind : (start f : F) (all xs : List T) (at : ℕ) → length xs ≤ at → Completes start all f xs at → IsFiltered step start all xs
  none_behind start f all xs at past completes =
      let none = drop_all at xs past in
      let whole = completes [] (subst (λ (l : List T). IsFiltered step f l []) (sym none) (filtered_none step f)) in
      subst (λ (l : List T). IsFiltered step start all l) (append-nil (take at xs) ∙ take_all at xs past) whole
