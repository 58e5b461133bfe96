use Rattle.std.proofs.Common.{rules, arith, ◌≡◌, ◌≢◌, ◌<◌, List, [], ◌∷◌, length, ap, subst}
use Rattle.std.specs.Vec.Iter.{into_iter_items}
use Rattle.std.proofs.lemmas.List.{nil_from_length}
use Rattle.std.proofs.lemmas.List.Sorted.{length_permutation}
use Rattle.iddqd_bi.specs.Bag.{conflicts_of}
use Rattle.iddqd_bi.specs.Map.{bag}
use Rattle.example_recipes.specs.declared.orders.Order.{Order}
use Rattle.example_recipes.proofs.Loading.{HasLoaded, loaded-start, loaded-added, loaded-refused, loaded-end}
use Rattle.example_recipes.proofs.batches.load_free.Goals as goal
use Rattle.example_recipes.proofs.batches.load_free.Invariants.{order_ranks}

pub loop-order-init : goal.loop-order-init
loop-order-init c =
    let all : into_iter_items c.into_iter-order-iterator.result ≡ c.args.batch.items = c.into_iter-order-iterator.ensures.into_iter_gives.0 in
    let long : length (into_iter_items c.into_iter-order-iterator.result) ≡ length c.args.batch.items = ap length all in
    let held : length (bag c.try_reserve.new.self) ≡ length (bag c.args.orders.now) = ap length c.try_reserve.ensures.items in
    let none : length c.in_ok-others.others.items ≡ 0 = ap length c.in_ok-others.ensures.items in
    record {
      loaded = loaded-start _ _ _ _ _ _ (search rules) (search rules) (search rules);
      room = omega (arith, c.in_ok-try_reserve.ensures.room.room, held, long, c.len-2.ensures, c.args.batch.ok.0);
      aside = omega (arith, c.in_ok-others.ensures.exact, none, long, c.len.ensures, c.args.batch.ok.0);
    }

pub push_reserved-requires : goal.push_reserved-requires
push_reserved-requires c =
    let step : length (into_iter_items c.loop-order.order-iterator) ≡ length (c.in-Some.order ∷ into_iter_items c.next.new.self) = ap length c.in-Some.ensures.steps.0 in
    omega (arith, c.loop-order.others.ok.0, c.loop-order.invariant.aside, step)

-- the map is as it was, and has room, so something conflicts
pub loop-order-preserved-in-Err : goal.loop-order-preserved-in-Err
loop-order-preserved-in-Err c =
    let at = c.loop-order in
    let step : length (into_iter_items at.order-iterator) ≡ length (c.in-Some.order ∷ into_iter_items c.next.new.self) = ap length c.in-Some.ensures.steps.0 in
    let same : bag c.try_insert.new.self ≡ bag at.orders = ap (λ m. bag m) c.in-Err.ensures.unchanged in
    let held : length (bag c.try_insert.new.self) ≡ length (bag at.orders) = ap length same in
    let as_much : c.try_insert.new.self.capacity ≡ at.orders.capacity = ap (λ m. m.capacity) c.in-Err.ensures.unchanged in
    let room : length (bag at.orders) < at.orders.capacity = omega (arith, at.invariant.room, step) in
    let taken : conflicts_of order_ranks (bag at.orders) c.in-Some.order ≢ [] = λ none. absurd (cc (c.in-Err.ensures.granted none room)) in
    let before = subst (λ (l : List Order). HasLoaded order_ranks (bag c.args.orders.now) c.args.batch.items at.others.items (bag at.orders) l)
    c.in-Some.ensures.steps.0 at.invariant.loaded in
    record {
      loaded = rw (c.push_reserved.ensures.items, c.in-Err.ensures.handed_back, same)
          (loaded-refused order_ranks _ _ _ (bag at.orders) _ c.in-Some.order taken before);
      room = omega (arith, at.invariant.room, held, as_much, step);
      aside = omega (arith, c.push_reserved.ensures.len, c.push_reserved.new.self.ok.0, at.others.ok.0, c.push_reserved.ensures.capacity, at.invariant.aside, step);
    }

pub loop-order-preserved : goal.loop-order-preserved
loop-order-preserved c =
    let at = c.loop-order in
    let step : length (into_iter_items at.order-iterator) ≡ length (c.in-Some.order ∷ into_iter_items c.next.new.self) = ap length c.in-Some.ensures.steps.0 in
    let before = subst (λ (l : List Order). HasLoaded order_ranks (bag c.args.orders.now) c.args.batch.items at.others.items (bag at.orders) l)
    c.in-Some.ensures.steps.0 at.invariant.loaded in
    record {
      loaded = loaded-added order_ranks _ _ _ (bag at.orders) _ _ c.in-Some.order c.in_default.ensures.free c.in_default.ensures.gains.items before;
      room = omega (arith, at.invariant.room, step, c.in_default.ensures.gains.no_less_room, length_permutation _ _ c.in_default.ensures.gains.items);
      aside = omega (arith, at.invariant.aside, step);
    }

-- none is left
pub returns-clause-left : goal.returns-clause-left
returns-clause-left c =
    (loaded-end order_ranks _ _ _ _ _ (nil_from_length _ (omega (arith, c.in-None.ensures.steps.0, c.loop-order.order-iterator.rest.ok))) c.loop-order.invariant.loaded).0

pub returns-clause-added : goal.returns-clause-added
returns-clause-added c =
    (loaded-end order_ranks _ _ _ _ _ (nil_from_length _ (omega (arith, c.in-None.ensures.steps.0, c.loop-order.order-iterator.rest.ok))) c.loop-order.invariant.loaded).1
