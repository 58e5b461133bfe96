use Rattle.std.proofs.lemmas.Result.{IfOk-weaker}
use Rattle.iddqd_order.specs.Row.{line}
use Rattle.iddqd_ord.specs.Ordered.{IsRising-at, IsSeeking-rising}
use Rattle.iddqd_ord.proofs.OrderLemmas.{searchable, IsSplit-last}
use Rattle.iddqd_ord.proofs.map.IdOrdMap.place_for.Goals as goal

pub search_last_first-requires-clause-ordered : goal.search_last_first-requires-clause-ordered
search_last_first-requires-clause-ordered g c =
    let key = g.T.IdOrdItem.key in
    let rises = IsRising-at g.T.Key.Ord.cmp key (g.Q.OrdQuery.compare c.args.query) (g.met.Q.OrdQuery.rises c.args.query) in
    searchable g.T.Key.Ord.cmp key (line c.self.inside.items.blocks) c.self.invariant (λ x. g.Q.OrdQuery.compare c.args.query (key x)) (IsSeeking-rising rises)

pub returns-clause-found : goal.returns-clause-found
returns-clause-found g c =
    let key = g.T.IdOrdItem.key in
    let xs = line c.self.inside.items.blocks in
    let rises = IsRising-at g.T.Key.Ord.cmp key (g.Q.OrdQuery.compare c.args.query) (g.met.Q.OrdQuery.rises c.args.query) in
    rw (← c.self.view_is) (IfOk-weaker c.search_last_first.result _ _ (λ p found. IsSplit-last g.met.T.Key.Ord.total key xs c.self.invariant (λ x. g.Q.OrdQuery.compare c.args.query (key x)) rises _ found) c.search_last_first.ensures.found)

pub returns-clause-ascending : goal.returns-clause-ascending
returns-clause-ascending g c = rw (← c.self.view_is) c.self.invariant
