-- What a caller knows of a batch of items that a vector gave.
use Rattle.std.specs.Prelude.{◌≡◌, ℕ, Bool, List, [], ◌∷◌, ◌++◌, length, slice_get, take, Some, All, Contains, IsPermutation}
use Rattle.std.specs.Cmp.{IsEquivalence}
use Rattle.std.specs.Iterator.{Drains, YieldsThen}
use Rattle.std.specs.Vec.Iter.{into_iter_items, into_iter_steps}
use Rattle.std.specs.declared.vec.IntoIter.{IntoIter}
use Rattle.std.proofs.Common.{refl, sym, ap, subst, ◌∙◌}
use Rattle.std.proofs.IntoIterSteps.{All-taken}
use Rattle.std.proofs.Math.Seq.{take-append_seam}
use Rattle.std.proofs.lemmas.List.Elements.{All-contains_itself, All-weaker, Contains-append_left, Contains-append_right}
use Rattle.std.proofs.lemmas.List.Sorted.{Contains-permutation, IsPermutation-sym}
use Rattle.iddqd_store.specs.Bag.{Ranks, IsOnly, IsSound, conflicts_of}
use Rattle.iddqd_store.specs.Bag.Building.{AddsTo, IsReason}
use Rattle.iddqd_store.specs.Callers.{IsRejected}
use Rattle.iddqd_store.specs.Rank.{agree}
use Rattle.iddqd_store.specs.declared.error.InsertReason.{InsertReason}
use Rattle.iddqd_store.proofs.BagLemmas.Building.{AddsTo-IsPermutation}
use Rattle.iddqd_store.proofs.BagLemmas.Sound.{named_is}
use Rattle.iddqd_store.proofs.CallerLemmas.{NamesOne-query, distinct_at}
use Rattle.iddqd_store.proofs.RankLemmas.Index.{Contains-here}
use Rattle.iddqd_store.proofs.MapLemmas.Extending.{yielded_then}

-- In what follows `it` is what the vector became, and `is` that it had the batch to give.
module _ {T Z : Type 0} (ranks : Ranks T) (old batch : List T) (it : IntoIter T Z) (is : into_iter_items it ≡ batch) where
  -- the whole batch was inserted
  pub batch-inserted : (new xs : List T) → Drains into_iter_steps it xs → AddsTo ranks old new xs → IsPermutation new (batch ++ old)
  batch-inserted new xs came added =
      subst (λ l. IsPermutation new (l ++ old)) (All-taken it xs came ∙ is) (AddsTo-IsPermutation ranks old new xs added)

  -- some first items of it came, then an item, and the rest is left
  pub batch-split : (x : T) (taken xs : List T) (rest : IntoIter T Z) → YieldsThen into_iter_steps it xs (Some x) rest → xs ≡ taken → batch ≡ taken ++ x ∷ into_iter_items rest
  batch-split x taken xs rest came same =
      subst (λ l. batch ≡ l ++ x ∷ into_iter_items rest) same
      (sym is ∙ yielded_then (into_iter_steps {X = T} {Z = Z}) (λ (s : IntoIter T Z). into_iter_items s) (λ s t y step. step.0) xs it rest x came)

  -- that item was rejected
  pub batch-refused : (x : T) (reason : InsertReason) (taken xs : List T) (rest : IntoIter T Z) → YieldsThen into_iter_steps it xs (Some x) rest
      → xs ≡ taken → IsSound ranks (taken ++ old) → IsReason reason (conflicts_of ranks (taken ++ old) x) → IsRejected ranks old batch x reason
  batch-refused x reason taken xs rest came same apart why = (taken, into_iter_items rest, batch-split x taken xs rest came same, apart, why)

module _ {T : Type 0} where
  item_behind : (before behind : List T) (x : T) → slice_get (before ++ x ∷ behind) (length before) ≡ Some x
  item_behind [] behind x = refl
  item_behind (y ∷ before) behind x = item_behind before behind x

  -- the rejected item comes after as many of the batch as were taken
  pub batch-index : (batch taken behind : List T) (x : T) → batch ≡ taken ++ x ∷ behind → slice_get batch (length taken) ≡ Some x
  batch-index batch taken behind x is = ap (λ l. slice_get l (length taken)) is ∙ item_behind taken behind x

  -- the rejected item is one of the batch
  pub Contains-rejected : (batch before behind : List T) (x : T) → batch ≡ before ++ x ∷ behind → Contains batch x
  Contains-rejected batch before behind x is =
      subst (λ l. Contains l x) (sym is) (Contains-append_right before (x ∷ behind) x (Contains-here x behind))

  -- and those that were taken are the first of the batch
  front_of : (batch taken behind : List T) (x : T) → batch ≡ taken ++ x ∷ behind → take (length taken) batch ≡ taken
  front_of batch taken behind x is = ap (λ l. take (length taken) l) is ∙ take-append_seam taken (x ∷ behind)

  -- each item of a batch that was inserted is the one that its key of a rank names; `first` and `rest` are the ranks
  -- before and after it
  pub batch-found : {K : Type 0} (first rest : Ranks T) (key : T → K) (eq : K → K → Bool) → IsEquivalence eq → (old new batch : List T)
      → IsSound (first ++ agree key eq ∷ rest) new → IsPermutation new (batch ++ old) → All (λ x. IsOnly (λ y. eq (key x) (key y)) new (Some x)) batch
  batch-found first rest key eq laws old new batch sound went_in =
      let one = distinct_at first rest (agree key eq) new sound in
      let in_it = λ (x : T) (there : Contains batch x). Contains-permutation (batch ++ old) new x (IsPermutation-sym new (batch ++ old) went_in) (Contains-append_left batch old x there) in
      All-weaker (Contains batch) (λ x. IsOnly (λ y. eq (key x) (key y)) new (Some x))
      (λ x there. sym (named_is (agree key eq) (λ y. eq (key x) (key y)) (NamesOne-query eq eq key (λ k l m same. laws.congr k l m same) (key x)) new x one (laws.refl (key x)) (in_it x there)))
      batch (All-contains_itself batch)

-- What follows takes the clauses `all` and `refused` of `extend_unique` as they are, for a batch that a vector gave. `P` is
-- what the clause says of the iterator of the vector.
module _ {T Z : Type 0} {P : IntoIter T Z → Type 0} (batch : List T) (is : (it : IntoIter T Z) → P it → into_iter_items it ≡ batch) where
  -- the whole batch was inserted
  pub loaded : (ranks : Ranks T) (old new : List T) → (it : IntoIter T Z) × (xs : List T) × P it × Drains into_iter_steps it xs × AddsTo ranks old new xs → IsPermutation new (batch ++ old)
  loaded ranks old new all = batch-inserted ranks old batch all.0 (is all.0 all.2) new all.1 all.3 all.4

  module _ (x : T) (before : List T) (came : (it : IntoIter T Z) × (xs : List T) × (rest : IntoIter T Z) × P it × YieldsThen into_iter_steps it xs (Some x) rest × (xs ≡ before)) where
    parts : batch ≡ before ++ x ∷ into_iter_items came.2
    parts = batch-split [] [] batch came.0 (is came.0 came.3) x before came.1 came.2 came.4 came.5

    module _ (index : ℕ) (many : index ≡ length before) where
      -- the rejected item has this index in the batch
      pub rejected-at : slice_get batch index ≡ Some x
      rejected-at = rw many (batch-index batch before (into_iter_items came.2) x parts)

      -- and those before it are the first of the batch
      pub rejected-behind : take index batch ≡ before
      rejected-behind = rw many (front_of batch before (into_iter_items came.2) x parts)
