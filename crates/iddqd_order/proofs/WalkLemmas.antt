-- What a part of a walk over a list meets.
use Rattle.std.proofs.Common.{◌≡◌, ℕ, zero, suc, ◌-◌, ◌<◌, ◌≤◌, List, [], ◌∷◌, length, get_or, take, map, reverse, refl, sym, ◌∙◌, arith, Option, Some, None, Bor}
use Rattle.std.specs.Option.{option_map}
use Rattle.std.proofs.lemmas.List.{get_or-reverse, length-reverse}
use Rattle.std.specs.Map.Iter.{deref}
use Rattle.std_collections.proofs.IterRuns.{shows_in_order, shows_in_reverse}
use Rattle.iddqd_order.specs.Walks.{IsWalked, MeetsFirst, MeetsLast}

module _ {A X : Type 0} (v : A → X) where
  shown : (o : Option A) (a : A) (y : X) → option_map (λ z. z) o ≡ Some a → option_map v o ≡ Some y → v a ≡ y
  shown None a y is shows = absurd (cc is)
  shown (Some b) a y is shows = cc (is, shows)

  front_of : (items : List A) (xs : List X) (n : ℕ) → length items ≤ length xs → length items ≤ n → (length items < n → length items ≡ length xs)
      → ((k : ℕ) (a : A) (d : X) → k < length items → v (get_or items k a) ≡ get_or xs k d) → map v items ≡ take n xs
  front_of [] [] zero few most whole each = refl
  front_of [] [] (suc n) few most whole each = refl
  front_of [] (x ∷ xs) zero few most whole each = refl
  front_of [] (x ∷ xs) (suc n) few most whole each = absurd (omega (arith, whole (omega arith)))
  front_of (a ∷ items) [] n few most whole each = absurd (omega (arith, few))
  front_of (a ∷ items) (x ∷ xs) zero few most whole each = absurd (omega (arith, most))
  front_of (a ∷ items) (x ∷ xs) (suc n) few most whole each =
      let rest : map v items ≡ take n xs = front_of items xs n (omega (arith, few)) (omega (arith, most)) (λ less. omega (arith, whole (omega (arith, less)))) (λ k b d lt. each (suc k) b d (omega (arith, lt))) in
      cc (each 0 a x (omega arith), rest)

module _ {X : Type 0} where
  pub meets_first : MeetsFirst X
  meets_first p seen n most whole =
      let shows = shows_in_order (deref {X = X}) p seen in
      let each : (k : ℕ) (a : Bor X) (d : X) → k < length p.items → deref (get_or p.items k a) ≡ get_or p.from k d = λ k a d lt. shown deref (p.at k) (get_or p.items k a) (get_or p.from k d) (p.reads k a (omega (arith, p.long, lt))) (shows.2 k d (omega (arith, p.long, lt))) in
      front_of deref p.items p.from n (omega (arith, p.long, shows.0)) (omega (arith, p.long, most)) (λ less. omega (arith, p.long, shows.1 (whole (omega (arith, p.long, less))))) each

  pub meets_last : MeetsLast X
  meets_last p seen n most whole =
      let shows = shows_in_reverse (deref {X = X}) p seen in
      let long = length-reverse p.from in
      let each : (k : ℕ) (a : Bor X) (d : X) → k < length p.items → deref (get_or p.items k a) ≡ get_or (reverse p.from) k d = λ k a d lt.
      let here : k < length p.from = omega (arith, p.long, shows.0, lt) in
      let turned : length p.from - 1 - (length p.from - 1 - k) ≡ k = omega (arith, here) in
      let read = rw turned at (shows.2 (length p.from - 1 - k) d (omega (arith, here)) (omega (arith, turned, p.long, lt))) in
      shown deref (p.at k) (get_or p.items k a) (get_or p.from (length p.from - 1 - k) d) (p.reads k a (omega (arith, p.long, lt))) read ∙ sym (get_or-reverse p.from k d here) in
      front_of deref p.items (reverse p.from) n (omega (arith, long, p.long, shows.0)) (omega (arith, p.long, most)) (λ less. omega (arith, long, p.long, shows.1 (whole (omega (arith, p.long, less))))) each

  pub is_walked : IsWalked X
  is_walked = record { runs = shows_in_order deref; runs_back = shows_in_reverse deref; meets_first = meets_first; meets_last = meets_last }
