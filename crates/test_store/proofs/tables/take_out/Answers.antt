use Rattle.std.proofs.Common.{inr}
use Rattle.test_store.proofs.tables.take_out.Goals as goal

pub find-requires-clause-own : goal.find-requires-clause-own
find-requires-clause-own c = inr (λ m slot. tt)
