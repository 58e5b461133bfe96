use Rattle.iddqd_store.proofs.TableLemmas.StretchBound.{stretch_le_pairs}
use Rattle.std.proofs.Common.{length}
use Rattle.iddqd_store.proofs.index_table.IndexTable.remove.Goals as goal

pub returns-clause-within : goal.returns-clause-within
returns-clause-within c = stretch_le_pairs c.args.self.now.pairs (length c.args.self.now.row) c.args.hash
