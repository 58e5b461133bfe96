use Rattle.std.proofs.Common.{arith}
use Rattle.std.proofs.lemmas.List.Sorted.{IsPermutation-sym, length_permutation}
use Rattle.iddqd_store.proofs.index_table.IndexTable.rehash_pair.Goals as goal

pub returns-clause-moved : goal.returns-clause-moved
returns-clause-moved c = record {
  others = c.remove.new.self.pairs;
  had = c.remove.ensures.removed;
  has = IsPermutation-sym _ _ c.insert_reserved.ensures.added;
}

pub returns-clause-costs : goal.returns-clause-costs
returns-clause-costs c =
    let removed = c.remove.ensures in
    let put = c.insert_reserved.ensures in
    omega (arith, removed.probes, removed.within, put.probes, put.within, length_permutation _ _ removed.removed)
