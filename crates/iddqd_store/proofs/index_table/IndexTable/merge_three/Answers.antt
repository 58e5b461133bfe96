use Rattle.std.proofs.Common.{arith, Some, sym}
use Rattle.std.specs.Prelude.{◌≢◌}
use Rattle.std.proofs.lemmas.List.Sorted.{length_permutation}
use Rattle.iddqd_store.proofs.RankLemmas.Walks.{three_found, three_not_found, two_found, walks_more}
use Rattle.iddqd_store.proofs.TableLemmas.Renumber.{stays}
use Rattle.iddqd_store.proofs.TableLemmas.Replaces.{after_second, after_third}
use Rattle.iddqd_store.proofs.index_table.IndexTable.merge_three.Goals as goal

pub merge_two-requires-clause-gone : goal.merge_two-requires-clause-gone
merge_two-requires-clause-gone c = stays _ c.remove.new.self.pairs _ _ c.remove.ensures.removed c.requires.gone c.requires.apart.0

pub merge_two-requires-clause-other : goal.merge_two-requires-clause-other
merge_two-requires-clause-other c = stays _ c.remove.new.self.pairs _ _ c.remove.ensures.removed c.requires.last (λ e. c.requires.apart.2 (sym e))

pub merge_two-requires-in-None-clause-gone : goal.merge_two-requires-in-None-clause-gone
merge_two-requires-in-None-clause-gone c = stays _ c.remove-in-None.new.self.pairs _ _ c.remove-in-None.ensures.removed c.requires.gone c.requires.apart.1

pub merge_two-requires-in-None-clause-other : goal.merge_two-requires-in-None-clause-other
merge_two-requires-in-None-clause-other c = stays _ c.remove-in-None.new.self.pairs _ _ c.remove-in-None.ensures.removed c.requires.other c.requires.apart.2

pub returns-in-Some-clause-replaced : goal.returns-in-Some-clause-replaced
returns-in-Some-clause-replaced c = after_second c.remove.ensures.removed c.merge_two.ensures.replaced

pub returns-in-None-clause-replaced : goal.returns-in-None-clause-replaced
returns-in-None-clause-replaced c = after_third c.remove-in-None.ensures.removed c.merge_two-in-None.ensures.replaced

pub returns-in-Some-clause-costs : goal.returns-in-Some-clause-costs
returns-in-Some-clause-costs c =
    let here = c.in-Some.ensures.hashed.0 in
    let less = length_permutation _ _ c.remove.ensures.removed in
    let rest = rw (two_found _ c.args.found.now c.args.last.0 here) at c.merge_two.ensures.costs in
    rw (three_found _ c.args.found.now c.args.other.0 c.args.last.0 here) (omega (arith, less, c.remove.ensures.probes, c.remove.ensures.within, rest))

pub returns-in-None-clause-costs : goal.returns-in-None-clause-costs
returns-in-None-clause-costs c =
    let away : c.args.found.now.slot ≢ Some c.args.last.0 = λ is. let known = c.in-None.ensures.known is in cc in
    let less = length_permutation _ _ c.remove-in-None.ensures.removed in
    rw (three_not_found _ c.args.found.now c.args.other.0 c.args.last.0 away)
    (walks_more _ _ (omega (arith, less)) (omega (arith, c.remove-in-None.ensures.probes, c.remove-in-None.ensures.within)) c.merge_two-in-None.ensures.costs)
