use Rattle.std.proofs.Common.{length}
use Rattle.iddqd_store.proofs.TableLemmas.Limits.{table_empty, length_held_empty, held_items-empty}
use Rattle.iddqd_store.proofs.index_table.IndexTable.clear.Goals as goal

pub invariant_of-self : goal.invariant_of-self
invariant_of-self c =
    let n = length c.self.inside.cells in
    rw c.clear.ensures (table_empty n c.self.invariant.0.size, length_held_empty n)

pub returns-then-self-gt0-clause-pairs : goal.returns-then-self-gt0-clause-pairs
returns-then-self-gt0-clause-pairs c = rw c.clear.ensures (held_items-empty (length c.self.inside.cells))
