-- What a caller knows of a batch of items that a vector gave.
use Rattle.std.proofs.Common.{◌≡◌, List, subst, ◌∙◌}
use Rattle.std.specs.Prelude.{IsPermutation, ◌++◌}
use Rattle.std.specs.Iterator.{Drains}
use Rattle.std.specs.Vec.Iter.{into_iter_items, into_iter_steps}
use Rattle.std.specs.declared.cmp.Ordering.{Ordering}
use Rattle.std.specs.declared.vec.IntoIter.{IntoIter}
use Rattle.std.proofs.IntoIterSteps.{All-taken}
use Rattle.iddqd_store.specs.Bag.{Ranks}
use Rattle.iddqd_store.proofs.BagLemmas.Building.{AddsTo-IsPermutation}
use Rattle.iddqd_sorted.specs.Batches.{AddsInOrder}

-- What follows takes the clause `all` of `extend_unique` as it is, for a batch that a vector gave. `P` is what the clause says of the
-- iterator of the vector. The store's lemmas `rejected-at` and `rejected-behind` take the clause `refused`.
module _ {T Z : Type 0} {P : IntoIter T Z → Type 0} (batch : List T) (is : (it : IntoIter T Z) → P it → into_iter_items it ≡ batch)
    (ranks : Ranks T) (by : T → T → Ordering) (old new : List T) (all : (it : IntoIter T Z) × (xs : List T) × P it × Drains into_iter_steps it xs × AddsInOrder ranks by old new xs) where
  -- the whole batch was inserted, each item at its place
  pub loaded_in_order : AddsInOrder ranks by old new batch
  loaded_in_order = subst (AddsInOrder ranks by old new) (All-taken all.0 all.1 all.3 ∙ is all.0 all.2) all.4

  -- the map has those of the batch and those that it had
  pub loaded_all : IsPermutation new (batch ++ old)
  loaded_all = AddsTo-IsPermutation ranks old new batch loaded_in_order.all
