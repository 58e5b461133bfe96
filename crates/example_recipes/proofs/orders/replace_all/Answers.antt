use Rattle.std.proofs.Common.{arith, rules, ◌≡◌, List, [], ◌∷◌, false, ◌∙◌, subst, sym}
use Rattle.std.specs.Prelude.{is_err}
use Rattle.std.specs.Vec.Iter.{into_iter_items}
use Rattle.std.proofs.lemmas.List.{nil_from_length}
use Rattle.std.proofs.lemmas.List.Sorted.{IsPermutation-refl, length_permutation}
use Rattle.iddqd_bi.specs.Map.{bag}
use Rattle.example_recipes.specs.Replaced.{ReplacesEach}
use Rattle.example_recipes.specs.declared.orders.Order.{Order}
use Rattle.example_recipes.proofs.OrderLemmas.{length-put, replaces_on, same_copy}
use Rattle.example_recipes.proofs.orders.replace_all.Goals as goal

pub loop-order-preserved : goal.loop-order-preserved
loop-order-preserved c =
    let done : is_err c.rekey1.result ≡ false = search rules in
    let next : into_iter_items c.loop-order.order-iterator ≡ c.in-Some.order ∷ into_iter_items c.next.new.self = search rules in
    record {
      count = length-put c.loop-order.orders c.rekey1.new.self c.in-Some.order c.rekey1.result done c.rekey1.ensures.puts ∙ c.loop-order.invariant.count;
      completes = λ new rest.
          c.loop-order.invariant.completes new
          (subst (λ (l : List Order). ReplacesEach l (bag c.loop-order.orders) new) (sym next)
          (replaces_on c.in-Some.order (into_iter_items c.next.new.self) c.loop-order.orders c.rekey1.new.self new c.rekey1.result done c.rekey1.ensures.found c.rekey1.ensures.puts rest));
    }

-- no order is left
pub returns-clause-replaced : goal.returns-clause-replaced
returns-clause-replaced c = λ _.
    let none_left : into_iter_items c.loop-order.order-iterator ≡ [] = nil_from_length _ (omega (arith, c.in-None.ensures.steps.0, c.loop-order.order-iterator.rest.ok)) in
    c.loop-order.invariant.completes (bag c.loop-order.orders)
    (subst (λ (l : List Order). ReplacesEach l (bag c.loop-order.orders) (bag c.loop-order.orders)) (sym none_left) (IsPermutation-refl _))

-- the copy has the same orders
pub returns-then-is_err-clause-rolled_back : goal.returns-then-is_err-clause-rolled_back
returns-then-is_err-clause-rolled_back c = λ _. same_copy _ (λ x y same. search rules) (bag c.args.orders.now) (bag c.in_ok-before.before) c.in_ok-before.ensures.items

pub returns-then-is_err-clause-count : goal.returns-then-is_err-clause-count
returns-then-is_err-clause-count c =
    sym (length_permutation _ _ (same_copy _ (λ x y same. search rules) (bag c.args.orders.now) (bag c.in_ok-before.before) c.in_ok-before.ensures.items))
