use Rattle.std.proofs.Common.{◌≡◌, List, [], ◌∷◌, refl, rules, sym, ap, ◌∙◌, length, arith}
use Rattle.std.specs.Prelude.{vec_len}
use Rattle.std.proofs.lemmas.Bool.{false≢true}
use Rattle.std.specs.Vec.Iter.{into_iter_items}
use Rattle.iddqd_ord.specs.Items.{items}
use Rattle.iddqd_ord.specs.Extensions.{with_items}
use Rattle.iddqd_ord.proofs.map.IdOrdMap.insert_all.Goals as goal

none_left : {X : Type 0} (xs : List X) → length xs ≡ 0 → xs ≡ []
none_left [] none = refl
none_left (x ∷ xs) none = absurd (omega (arith, none))

pub loop-item-init : goal.loop-item-init
loop-item-init g c =
    let all : into_iter_items c.into_iter-item-iterator.result ≡ c.args.list.items = c.into_iter-item-iterator.ensures.into_iter_gives.0 in
    let len : vec_len c.args.list ≡ length c.args.list.items = search rules in
    record {
      callable = tt;
      ending = tt;
      all = ap (with_items g.T.IdOrdItem g.T.Key.Ord.cmp (items c.args.self.now)) all;
      free = rw all c.requires.free;
      room = rw all c.requires.room;
      capacity = refl;
      counted = omega (arith, ap length all, c.into_iter-item-iterator.ensures.into_iter_gives.1, len);
    }

pub unreachable-requires : goal.unreachable-requires
unreachable-requires g c =
    let at = c.loop-item in
    let steps = c.in-Some.ensures.steps.0 in
    let free = rw steps at at.invariant.free in
    false≢true (c.in-Err.ensures.granted free.0 (omega (arith, ap length steps, at.invariant.room)))

pub loop-item-preserved : goal.loop-item-preserved
loop-item-preserved g c =
    let at = c.loop-item in
    let steps = c.in-Some.ensures.steps.0 in
    let free = rw steps at at.invariant.free in
    let gains = c.in-Ok.ensures.gains in
    record {
      callable = tt;
      ending = tt;
      all = rw gains.lists (rw steps at at.invariant.all);
      free = rw gains.lists free.1;
      room = omega (arith, ap length steps, at.invariant.room, gains.more, gains.no_less_room);
      capacity = gains.same_room (omega (arith, ap length steps, at.invariant.room)) ∙ at.invariant.capacity;
      counted = omega (arith, ap length steps, c.in-Some.ensures.steps.1, at.invariant.counted);
    }

pub returns-clause-items : goal.returns-clause-items
returns-clause-items g c =
    let none : into_iter_items c.loop-item.item-iterator ≡ [] = none_left _ (omega (arith, c.loop-item.invariant.counted, c.in-None.ensures.steps.0)) in
    sym (ap (with_items g.T.IdOrdItem g.T.Key.Ord.cmp (items c.loop-item.self)) none) ∙ c.loop-item.invariant.all
