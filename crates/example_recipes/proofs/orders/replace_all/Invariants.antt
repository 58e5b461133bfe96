use Rattle.std.proofs.Common.{◌≡◌, List, length}
use Rattle.std.specs.Vec.Iter.{into_iter_items}
use Rattle.iddqd_bi.specs.Map.{bag}
use Rattle.example_recipes.specs.Replaced.{ReplacesEach}
use Rattle.example_recipes.specs.declared.orders.Order.{Order}
use Rattle.example_recipes.proofs.orders.replace_all.Given as goal

-- each order takes the place of one, and what the others replace from here on completes what all replace
abbrev pub invariant-loop-order : goal.invariant-loop-order
invariant-loop-order l = record {
  count : length (bag l.orders) ≡ length (bag l.fn.orders);
  completes : (new : List Order) → ReplacesEach (into_iter_items l.order-iterator) (bag l.orders) new → ReplacesEach l.fn.changed.items (bag l.fn.orders) new;
}
