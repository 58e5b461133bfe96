-- What a part of a walk over a list meets. In the examples the list that is left is 3, 5, 7.
use Rattle.std.specs.Prelude.{◌≡◌, ℕ, ◌<◌, ◌≤◌, true, map, take, reverse}
use Rattle.std.specs.Iterator.Runs.{EveryRun}
use Rattle.std.specs.Map.Iter.{ShowsInOrder, ShowsInReverse, TakesFirst, TakesLast, deref}

module _ (X : Type 0) where
  -- A run of `next` that stops after `n` items, or at the end, meets the first `n` of the items that were left.
  -- Example: For 2 it meets 3, 5, and for 9 it meets 3, 5, 7.
  abbrev pub MeetsFirst : Type 0
  MeetsFirst = EveryRun (TakesFirst (deref {X = X})) (λ p. (n : ℕ) → p.len ≤ n → (p.len < n → p.whole ≡ true) → map deref p.items ≡ take n p.from)

  -- A run of `next_back` that stops after `n` items, or at the end, meets the last `n` of them, the last one first.
  -- Example: For 2 it meets 7, 5, and for 9 it meets 7, 5, 3.
  abbrev pub MeetsLast : Type 0
  MeetsLast = EveryRun (TakesLast (deref {X = X})) (λ p. (n : ℕ) → p.len ≤ n → (p.len < n → p.whole ≡ true) → map deref p.items ≡ take n (reverse p.from))

  -- A walk over a list, from either end or from both, meets its items in their order, and so does each part of it.
  -- Example: From both ends in turn it meets 3, 7, 5.
  pub record IsWalked : Type 0 where
    pub runs : ShowsInOrder (deref {X = X})
    pub runs_back : ShowsInReverse (deref {X = X})
    pub meets_first : MeetsFirst
    pub meets_last : MeetsLast
