use Rattle.std.proofs.Common.{sym, ◌∙◌}
use Rattle.std.specs.Map.Iter.{deref}
use Rattle.std_collections.proofs.IterRuns.{shows_in_order, shows_in_reverse}
use Rattle.iddqd_order.proofs.FilterLemmas.{filter-between}
use Rattle.iddqd_ord.proofs.MatchLemmas.{filter-sides}
use Rattle.iddqd_ord.proofs.map.IdOrdMap.matching.Goals as goal

pub returns-clause-gives : goal.returns-clause-gives
returns-clause-gives g c =
    let key = g.T.IdOrdItem.key in
    let from = rw (← c.self.view_is) at c.range_start-next.ensures.starts in
    let to = rw (← c.self.view_is) at c.range_end-end.ensures.starts in
    rw (← c.self.view_is) (
    c.range.ensures
    ∙ sym (filter-between _ _ _ _ _ from to)
    ∙ filter-sides (λ x. g.Q.OrdSeek.side c.args.query (key x)) (λ x. g.met.Q.OrdSeek.meets_equal c.args.query (key x)) _
    )

pub returns-clause-runs : goal.returns-clause-runs
returns-clause-runs g c = shows_in_order deref

pub returns-clause-runs_back : goal.returns-clause-runs_back
returns-clause-runs_back g c = shows_in_reverse deref
