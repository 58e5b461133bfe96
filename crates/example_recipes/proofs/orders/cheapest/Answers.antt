use Rattle.std.proofs.Common.{rules, ◌≡◌, IsPermutation, Bor, subst}
use Rattle.std.proofs.Common.{map as mapped}
use Rattle.std.proofs.iter.runs.Made.{chains}
use Rattle.std.proofs.lemmas.List.Sorted.{IsNonDecreasingBy-from_sort_by_key, IsPermutation-map}
use Rattle.iddqd_bi.specs.Map.{bag}
use Rattle.example_recipes.specs.declared.orders.Order.{Order}
use Rattle.example_recipes.proofs.orders.cheapest.Goals as goal

-- what was collected shows the items, the sort keeps it, and the first of it are kept
pub returns : goal.returns
returns c =
    let sorted = c.sort_by_key.new.self.items in
    let shown : mapped (λ (r : Bor Order). r.now) c.in_ok-sorted.sorted.items ≡ bag c.args.orders.now = search (rules, chains) in
    let same = IsPermutation-map (λ (r : Bor Order). r.now) c.in_ok-sorted.sorted.items sorted c.in_ok-sort_by_key.ensures.permutation in (
      sorted,
      c.truncate.ensures.items,
      subst (λ xs. IsPermutation xs (mapped (λ (r : Bor Order). r.now) sorted)) shown same,
      IsNonDecreasingBy-from_sort_by_key (λ (r : Bor Order). r.now.price) _ c.in_ok-sort_by_key.ensures.sorted (λ a r f' k. search rules),
    )
