use Rattle.std.proofs.Common.{sym, ◌∙◌, arith}
use Rattle.iddqd_order.proofs.FilterLemmas.{filter-between}
use Rattle.iddqd_ord.proofs.StepLemmas.{parts_between, rest_between, some_between}
use Rattle.iddqd_ord.proofs.map.IdOrdMap.range_mut.Goals as goal

pub returns-then-left-eq0-clause-gives : goal.returns-then-left-eq0-clause-gives
returns-then-left-eq0-clause-gives g c = λ has.
    let front = c.range_start-front in
    let end = c.range_end-end in
    let from = rw (c.start_bound.ensures has) at front.ensures.starts in
    let to = rw (c.end_bound.ensures has) at end.ensures.starts in
    rest_between c.args.self.now front.result end.result front.ensures.place end.ensures.place c.count_between-left.result c.count_between-left.ensures ∙ sym (filter-between _ _ _ _ _ from to)

pub returns-clause-gives : goal.returns-clause-gives
returns-clause-gives g c = λ has.
    let front = c.range_start-front in
    let end = c.range_end-end in
    let from = rw (c.start_bound.ensures has) at front.ensures.starts in
    let to = rw (c.end_bound.ensures has) at end.ensures.starts in
    rest_between c.args.self.now front.result end.result front.ensures.place end.ensures.place c.count_between-left.result c.count_between-left.ensures ∙ sym (filter-between _ _ _ _ _ from to)

pub returns-clause-parts : goal.returns-clause-parts
returns-clause-parts g c =
    let front = c.range_start-front in
    let end = c.range_end-end in
    let left = c.count_between-left in
    parts_between c.args.self.now front.result end.result left.result
    (some_between c.args.self.now front.result end.result front.ensures.place end.ensures.place left.result left.ensures (λ none. omega (arith, none)))
