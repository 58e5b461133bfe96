use Rattle.std.proofs.Common.{true}
use Rattle.iddqd_order.specs.Row.{line}
use Rattle.iddqd_order.proofs.StartLemmas.{IsStartOf-side, never_found}
use Rattle.iddqd_ord.proofs.OrderLemmas.{searchable, IsSeeking-side, IsSeeking-at}
use Rattle.iddqd_ord.proofs.map.IdOrdMap.upper_bound.Goals as goal

pub search-requires-clause-ordered : goal.search-requires-clause-ordered
search-requires-clause-ordered g c =
    let cmp = g.T.Key.Ord.cmp in
    let key = g.T.IdOrdItem.key in
    let seeks = IsSeeking-at cmp key (g.Q.OrdSeek.side c.args.query) (g.met.Q.OrdSeek.seeks c.args.query) in
    searchable cmp key (line c.self.inside.items.blocks) c.self.invariant _ (IsSeeking-side cmp key _ true seeks)

pub returns-clause-starts : goal.returns-clause-starts
returns-clause-starts g c =
    let key = g.T.IdOrdItem.key in
    rw (← c.self.view_is) (IsStartOf-side (λ x. g.Q.OrdSeek.side c.args.query (key x)) true (line c.self.inside.items.blocks) _ c.in-Err.ensures.gap)

pub unreachable-requires : goal.unreachable-requires
unreachable-requires g c =
    let key = g.T.IdOrdItem.key in
    never_found (λ x. g.Q.OrdSeek.side c.args.query (key x)) true (line c.self.inside.items.blocks) _ c.in-Ok.ensures.found
