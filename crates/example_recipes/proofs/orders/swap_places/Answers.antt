use Rattle.std.specs.Prelude.{◌≡◌, ◌≤◌, [], ◌∷◌, false, filter, length, is_err}
use Rattle.std.proofs.Common.{rules}
use Rattle.std.proofs.lemmas.Bool.{false≢true}
use Rattle.iddqd_bi.specs.Map.{bag}
use Rattle.example_recipes.proofs.OrderLemmas.{traded_by}
use Rattle.example_recipes.proofs.Swapping.{comes_back, moved_of, moves, numbered}
use Rattle.example_recipes.proofs.orders.swap_places.Goals as goal

-- the place of the second order is free once it left
pub unreachable-requires : goal.unreachable-requires
unreachable-requires c =
    let gone = c.in-Some-remove1.ensures in
    let first : c.in-Some.first ∷ [] ≡ filter (numbered c.args.one) (bag c.args.orders.now) = search rules in
    let done = moves c.args.one c.args.other c.args.orders.now c.remove1.new.self c.in-Some.first c.in-Some-remove1.second c.if-one-other.false
    first gone.taken c.len.ensures.sound gone.loses.items c.rekey1.result c.rekey1.ensures.reason in
    absurd (cc (done, c.is_err.ensures.value, c.if-is_err.true))

-- and it comes back
pub unreachable-requires-in-Err : goal.unreachable-requires-in-Err
unreachable-requires-in-Err c =
    let gone = c.in-Some-remove1.ensures in
    let first : c.in-Some.first ∷ [] ≡ filter (numbered c.args.one) (bag c.args.orders.now) = search rules in
    let put : is_err c.rekey1.result ≡ false = search rules in
    let fits : length (bag c.args.orders.now) ≤ c.args.orders.now.capacity = rw c.capacity.ensures.value at c.capacity.ensures.fits in
    absurd (false≢true (comes_back c.args.one c.args.other c.args.orders.now c.remove1.new.self c.in-Some.first c.in-Some-remove1.second
    c.if-one-other.false first gone.taken c.len.ensures.sound gone.loses.items c.rekey1.new.self c.rekey1.result put c.rekey1.ensures.found
    c.rekey1.ensures.puts fits gone.loses.same_room c.in-Err.ensures.granted))

-- one order left, the other one took its place, and the first came back
pub returns-clause-swapped : goal.returns-clause-swapped
returns-clause-swapped c = λ _.
    let a = c.in-Some.first in
    let b = c.in-Some-remove1.second in
    let gone = c.in-Some-remove1.ensures in
    let first : a ∷ [] ≡ filter (numbered c.args.one) (bag c.args.orders.now) = search rules in
    let put : is_err c.rekey1.result ≡ false = search rules in
    let came = c.in-Ok.ensures.gains in (
      a,
      b,
      first,
      gone.taken,
      traded_by (numbered c.args.one) (bag c.args.orders.now) (bag c.try_insert.new.self) c.remove1.new.self c.rekey1.new.self
          a b (moved_of a b) (moved_of b a) c.rekey1.result put c.rekey1.ensures.found c.rekey1.ensures.puts first gone.loses.items came.items,
    )
