use Rattle.std.proofs.Common.{arith}
use Rattle.iddqd_store.proofs.RankLemmas.Walks.{one_moves, one_stays}
use Rattle.iddqd_store.proofs.TableLemmas.Moved.{stays}
use Rattle.iddqd_store.proofs.index_table.IndexTable.rehash_into.Goals as goal

pub returns-then-before-hash-clause-moved : goal.returns-then-before-hash-clause-moved
returns-then-before-hash-clause-moved c =
    stays c.args.self.now.pairs _ _ c.args.slot c.requires.paired (rw c.hash.ensures at c.if-before-hash.true)

pub returns-then-before-hash-clause-costs : goal.returns-then-before-hash-clause-costs
returns-then-before-hash-clause-costs c = rw (one_stays _ _ (rw c.hash.ensures at c.if-before-hash.true)) (omega arith)

pub returns-clause-costs : goal.returns-clause-costs
returns-clause-costs c = rw (one_moves _ _ (rw c.hash.ensures at c.if-before-hash.false)) c.rehash_pair_into.ensures.costs

pub returns-clause-one_walk : goal.returns-clause-one_walk
returns-clause-one_walk c = λ same room. let walk = c.rehash_pair_into.ensures.one_walk same room in omega (arith, walk)
