use Rattle.std.proofs.Common.{arith, ℕ, Contains, ◌≢◌, Some, sym, subst, ◌∙◌}
use Rattle.std.proofs.lemmas.List.Sorted.{length_permutation}
use Rattle.iddqd_store.proofs.RankLemmas.Walks.{two_found, two_not_found, walks_more}
use Rattle.iddqd_store.proofs.TableLemmas.Renumber.{stays}
use Rattle.iddqd_store.proofs.TableLemmas.Replaces.{after_one, after_two}
use Rattle.iddqd_store.proofs.index_table.IndexTable.merge_two.Goals as goal

pub renumber-requires : goal.renumber-requires
renumber-requires c =
    let hashed = c.in-Some.ensures.hashed in
    let same = c.requires.known hashed.0 ∙ sym hashed.1 in
    stays c.args.self.now.pairs c.remove.new.self.pairs _ _ c.remove.ensures.removed
    (subst (λ (h : ℕ). Contains c.args.self.now.pairs (h, c.args.other.0)) same c.requires.other) (λ e. c.requires.apart (sym e))

pub rehash-requires : goal.rehash-requires
rehash-requires c = stays c.args.self.now.pairs c.remove-in-None.new.self.pairs _ _ c.remove-in-None.ensures.removed c.requires.gone c.requires.apart

pub returns-in-Some-clause-replaced : goal.returns-in-Some-clause-replaced
returns-in-Some-clause-replaced c =
    let hashed = c.in-Some.ensures.hashed in
    let same = c.requires.known hashed.0 ∙ sym hashed.1 in
    rw (same, ← hashed.1) (after_one c.remove.ensures.removed c.renumber.ensures.replaced)

pub returns-in-None-clause-replaced : goal.returns-in-None-clause-replaced
returns-in-None-clause-replaced c = after_two c.remove-in-None.ensures.removed (rw c.hash.ensures at c.rehash.ensures.moved)

pub returns-in-Some-clause-costs : goal.returns-in-Some-clause-costs
returns-in-Some-clause-costs c =
    let less = length_permutation _ _ c.remove.ensures.removed in
    let number = c.renumber.ensures in
    rw (two_found _ c.args.found.now c.args.other.0 c.in-Some.ensures.hashed.0)
    (omega (arith, less, c.remove.ensures.probes, c.remove.ensures.within, number.probes.hit_most, number.within))

pub returns-in-None-clause-costs : goal.returns-in-None-clause-costs
returns-in-None-clause-costs c =
    let away : c.args.found.now.slot ≢ Some c.args.other.0 = λ is. let known = c.in-None.ensures.known is in cc in
    let less = length_permutation _ _ c.remove-in-None.ensures.removed in
    rw (two_not_found _ c.args.found.now c.args.other.0 away)
    (walks_more _ _ (omega (arith, less)) (omega (arith, c.remove-in-None.ensures.probes, c.remove-in-None.ensures.within)) (rw c.hash.ensures at c.rehash.ensures.costs))
