use Rattle.std.proofs.Common.{◌≡◌, ◌<◌, length, ap, arith}
use Rattle.std.proofs.lemmas.List.{length-drop}
use Rattle.std.proofs.lemmas.List.Elements.{All-rest}
use Rattle.iddqd_order.specs.Row.{BlockValue}
use Rattle.iddqd_order.proofs.IterLemmas.{first_left}
use Rattle.iddqd_order.proofs.into_iter.IntoIterIterator.next.Goals as goal

pub invariant_of-self-2 : goal.invariant_of-self-2
invariant_of-self-2 g c =
    let it = c.self.inside in
    let first = c.in-Some-pop_front in
    let rest = c.pop_front-2.new.self.items in
    let none : length it.front.items ≡ 0 = omega (arith, ap length c.in_default.ensures.items, ap length c.in_default.ensures.rest, length-drop 1 it.front.items) in
    let parts = first_left it.front.items it.blocks.items rest it.back.items first.block c.into_first-entry.result.0 c.into_first-entry.result.1.items none first.ensures.items c.into_first-entry.ensures in
    (All-rest (λ (r : BlockValue g.row.E.Denot). 0 < length r.entries) first.block rest it.blocks.items first.ensures.items c.self.invariant.0, omega (arith, ap length parts, c.self.invariant.1))
