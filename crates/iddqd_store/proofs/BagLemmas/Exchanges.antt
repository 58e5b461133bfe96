-- Lists with the same elements, by exchanges of neighbours.
use Rattle.std.specs.Prelude.{◌≡◌, ℕ, zero, suc, ◌<◌, Bool, true, false, cond, List, [], ◌∷◌, length, filter, IsPermutation}
use Rattle.std.specs.List.{swap}
use Rattle.std.proofs.Common.{refl, arith, get_or, set}
use Rattle.std.proofs.lemmas.List.Sorted.{IsPermutation-refl, IsPermutation-cons, IsPermutation-trans, IsPermutation-middle, IsPermutation-keeps}

-- a test is true or false
pub split : (P : Bool → Type 0) (b : Bool) → (b ≡ true → P true) → (b ≡ false → P false) → P b
split P true one other = one refl
split P false one other = other refl

-- A list and its elements in another order, one exchange of neighbours after another. `IsPermutation` says the same by exchanges of any two.
pub data Shuffled {T : Type 0} : List T → List T → Type 0 where
  done : Shuffled [] []
  keep : {x : T} {xs ys : List T} → Shuffled xs ys → Shuffled (x ∷ xs) (x ∷ ys)
  flip : (x y : T) (xs : List T) → Shuffled (x ∷ y ∷ xs) (y ∷ x ∷ xs)
  then : {xs ys zs : List T} → Shuffled xs ys → Shuffled ys zs → Shuffled xs zs

module _ {T : Type 0} where
  Shuffled-refl : (xs : List T) → Shuffled xs xs
  Shuffled-refl [] = done
  Shuffled-refl (x ∷ xs) = keep (Shuffled-refl xs)

  -- x changes places with the element at j of those after it
  Shuffled-front : (x d : T) (xs : List T) (j : ℕ) → j < length xs → Shuffled (x ∷ xs) (get_or xs j d ∷ set xs j x)
  Shuffled-front x d [] j h = absurd (omega arith)
  Shuffled-front x d (y ∷ xs) zero h = flip x y xs
  Shuffled-front x d (y ∷ xs) (suc j) h =
      then (flip x y xs) (then (keep (Shuffled-front x d xs j (omega arith))) (flip y (get_or xs j d) (set xs j x)))

  Shuffled-places : (d : T) (xs : List T) (i j : ℕ) → i < length xs → j < length xs → Shuffled xs (set (set xs i (get_or xs j d)) j (get_or xs i d))
  Shuffled-places d [] i j p q = absurd (omega arith)
  Shuffled-places d (x ∷ xs) zero zero p q = Shuffled-refl (x ∷ xs)
  Shuffled-places d (x ∷ xs) zero (suc j) p q = Shuffled-front x d xs j (omega arith)
  Shuffled-places d (x ∷ xs) (suc i) zero p q = Shuffled-front x d xs i (omega arith)
  Shuffled-places d (x ∷ xs) (suc i) (suc j) p q = keep (Shuffled-places d xs i j (omega arith) (omega arith))

  Shuffled-swap : (xs : List T) (i j : ℕ) → i < length xs → j < length xs → Shuffled xs (swap xs i j)
  Shuffled-swap [] i j p q = done
  Shuffled-swap (x ∷ xs) i j p q = Shuffled-places x (x ∷ xs) i j p q

  pub IsPermutation-flip : (x y : T) (xs : List T) → IsPermutation (x ∷ y ∷ xs) (y ∷ x ∷ xs)
  IsPermutation-flip x y xs = IsPermutation-middle (x ∷ []) y xs

  filter-Shuffled : (p : T → Bool) {xs ys : List T} → Shuffled xs ys → IsPermutation (filter p xs) (filter p ys)
  filter-Shuffled p done = IsPermutation-refl []
  filter-Shuffled p (keep {x} {xs} {ys} s) =
      let rest = filter-Shuffled p s in
      split (λ b. IsPermutation (cond b (x ∷ filter p xs) (filter p xs)) (cond b (x ∷ filter p ys) (filter p ys))) (p x) (λ _. IsPermutation-cons x _ _ rest) (λ _. rest)
  filter-Shuffled p (flip x y xs) =
      let l : List T = filter p xs in
      split (λ b. IsPermutation (cond b (x ∷ cond (p y) (y ∷ l) l) (cond (p y) (y ∷ l) l)) (cond (p y) (y ∷ cond b (x ∷ l) l) (cond b (x ∷ l) l))) (p x)
      (λ _. split (λ c. IsPermutation (x ∷ cond c (y ∷ l) l) (cond c (y ∷ x ∷ l) (x ∷ l))) (p y) (λ _. IsPermutation-flip x y l) (λ _. IsPermutation-refl _))
      (λ _. IsPermutation-refl _)
  filter-Shuffled p (then s t) = IsPermutation-trans _ _ _ (filter-Shuffled p s) (filter-Shuffled p t)

  -- a filter of a bag does not depend on the order of its members
  pub IsPermutation-filter : (p : T → Bool) (xs ys : List T) → IsPermutation xs ys → IsPermutation (filter p xs) (filter p ys)
  IsPermutation-filter p xs ys h =
      IsPermutation-keeps xs (λ l. IsPermutation (filter p xs) (filter p l)) (IsPermutation-refl _)
      (λ l i j a b k. IsPermutation-trans _ _ _ k (filter-Shuffled p (Shuffled-swap l i j a b))) ys h

  pub Shuffled-from : (xs ys : List T) → IsPermutation xs ys → Shuffled xs ys
  Shuffled-from xs ys h = IsPermutation-keeps xs (λ l. Shuffled xs l) (Shuffled-refl xs) (λ l i j a b k. then k (Shuffled-swap l i j a b)) ys h
