use Rattle.std.proofs.Common.{◌+◌, ◌≤◌, [], ◌∷◌, length, nat_eq}
use Rattle.std.specs.Prelude.{vec_capacity}
use Rattle.std.specs.Vec.Iter.{into_iter_items}
use Rattle.iddqd_bi.specs.Bag.{Ranks}
use Rattle.iddqd_bi.specs.Map.{bag}
use Rattle.iddqd_bi.specs.Rank.{agree}
use Rattle.example_recipes.specs.declared.orders.Order.{Order}
use Rattle.example_recipes.proofs.Loading.{HasLoaded}
use Rattle.example_recipes.proofs.batches.load_free.Given as goal

abbrev pub order_ranks : Ranks Order
order_ranks = agree (λ (o : Order). o.number) nat_eq ∷ agree (λ (o : Order). o.place) nat_eq ∷ []

abbrev pub invariant-loop-order : goal.invariant-loop-order
invariant-loop-order l = record {
  loaded : HasLoaded order_ranks (bag l.fn.orders) l.fn.batch.items l.others.items (bag l.orders) (into_iter_items l.order-iterator);
  room : length (bag l.orders) + length (into_iter_items l.order-iterator) ≤ l.orders.capacity;
  aside : length l.others.items + length (into_iter_items l.order-iterator) ≤ vec_capacity l.others;
}
