use Rattle.iddqd_order.specs.Row.{line, position}
use Rattle.iddqd_ord.proofs.OrderLemmas.{ascending-insert}
use Rattle.iddqd_ord.proofs.map.IdOrdMap.insert_within.Goals as goal

pub invariant_of-self : goal.invariant_of-self
invariant_of-self g c =
    let blocks = c.self.inside.items.blocks in
    let gap = rw (← c.self.view_is) at c.requires.gap in
    rw c.insert_within.ensures.entries (ascending-insert g.met.T.Key.Ord.total g.T.IdOrdItem.key (line blocks) (position blocks c.args.place) c.args.item gap c.self.invariant)
