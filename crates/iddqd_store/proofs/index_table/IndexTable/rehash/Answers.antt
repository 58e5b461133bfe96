use Rattle.std.proofs.Common.{arith}
use Rattle.iddqd_store.proofs.RankLemmas.Walks.{one_moves, one_stays}
use Rattle.iddqd_store.proofs.TableLemmas.Moved.{stays}
use Rattle.iddqd_store.proofs.index_table.IndexTable.rehash.Goals as goal

pub returns-then-before-hash-clause-moved : goal.returns-then-before-hash-clause-moved
returns-then-before-hash-clause-moved c = stays c.args.self.now.pairs _ _ c.args.slot c.requires c.if-before-hash.true

pub returns-then-before-hash-clause-costs : goal.returns-then-before-hash-clause-costs
returns-then-before-hash-clause-costs c = rw (one_stays _ _ c.if-before-hash.true) (omega arith)

pub returns-clause-costs : goal.returns-clause-costs
returns-clause-costs c = rw (one_moves _ _ c.if-before-hash.false) c.rehash_pair.ensures.costs
