use Rattle.std.proofs.Common.{sym, ◌∙◌}
use Rattle.iddqd_order.proofs.FilterLemmas.{filter-between}
use Rattle.iddqd_order.proofs.WalkLemmas.{is_walked}
use Rattle.iddqd_ord.proofs.map.IdOrdMap.range.Goals as goal

pub returns-clause-gives : goal.returns-clause-gives
returns-clause-gives g c = λ has.
    let from = rw (c.start_bound.ensures has, ← c.self.view_is) at c.range_start-next.ensures.starts in
    let to = rw (c.end_bound.ensures has, ← c.self.view_is) at c.range_end-end.ensures.starts in
    rw (← c.self.view_is) (c.range.ensures ∙ sym (filter-between _ _ _ _ _ from to))

pub returns-clause-walked : goal.returns-clause-walked
returns-clause-walked g c = is_walked
