use Rattle.std.proofs.Common.{arith, length}
use Rattle.iddqd_store.proofs.TableLemmas.Limits.{size_most}
use Rattle.iddqd_store.proofs.index_table.IndexTable.capacity.Goals as goal

pub returns-clause-most : goal.returns-clause-most
returns-clause-most c = rw c.len.ensures (size_most (length c.self.inside.cells) c.self.invariant.0.size (omega (arith, c.len.ensures, c.len.type_inv)))
