use Rattle.iddqd_order.specs.Row.{line}
use Rattle.iddqd_ord.specs.Ordered.{IsRising-at, IsSeeking-rising}
use Rattle.iddqd_ord.proofs.OrderLemmas.{searchable}
use Rattle.iddqd_ord.proofs.map.IdOrdMap.place_at_end.Goals as goal

pub behind_last-requires-clause-ordered : goal.behind_last-requires-clause-ordered
behind_last-requires-clause-ordered g c =
    let key = g.T.IdOrdItem.key in
    let rises = IsRising-at g.T.Key.Ord.cmp key (g.Q.OrdQuery.compare c.args.query) (g.met.Q.OrdQuery.rises c.args.query) in
    searchable g.T.Key.Ord.cmp key (line c.self.inside.items.blocks) c.self.invariant (λ x. g.Q.OrdQuery.compare c.args.query (key x)) (IsSeeking-rising rises)
