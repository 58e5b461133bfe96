use Rattle.std.proofs.Common.{◌+◌, ◌≤◌, ◌++◌, [], ◌∷◌, length, nat_eq, drop, Bor}
use Rattle.std.specs.Prelude.{map as mapped}
use Rattle.iddqd_bi.specs.Bag.{Ranks}
use Rattle.iddqd_bi.specs.Map.{bag}
use Rattle.iddqd_bi.specs.Rank.{agree}
use Rattle.example_recipes.specs.declared.orders.Order.{Order}
use Rattle.example_recipes.proofs.Loading.{HasLoaded}
use Rattle.example_recipes.proofs.batches.refused.Given as goal

abbrev pub order_ranks : Ranks Order
order_ranks = agree (λ (o : Order). o.number) nat_eq ∷ agree (λ (o : Order). o.place) nat_eq ∷ []

-- of the batch, the refused ones were found, `added` has references to the others so far, and room for those to come
abbrev pub invariant-loop-order : goal.invariant-loop-order
invariant-loop-order l = record {
  found : HasLoaded order_ranks (bag l.fn.orders) l.fn.batch (mapped (λ (o : Bor Order). o.now) l.refused.items) (mapped (λ (o : Bor Order). o.now) (bag l.added) ++ bag l.fn.orders) (drop l.order-index l.fn.batch);
  room : length (bag l.added) + length (drop l.order-index l.fn.batch) ≤ l.added.capacity;
}
