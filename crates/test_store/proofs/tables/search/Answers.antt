use Rattle.std.proofs.Common.{inr}
use Rattle.test_store.proofs.tables.search.Goals as goal

pub find-found-requires-clause-own : goal.find-found-requires-clause-own
find-found-requires-clause-own c = inr (λ m slot. tt)
