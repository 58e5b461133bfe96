use Rattle.std.proofs.Common.{arith, rules}
use Rattle.iddqd_store.proofs.MapLemmas.{at_err}
use Rattle.iddqd_sorted.proofs.map.Sorted.from_iter_unique.Goals as goal

pub returns-in_err-extend_unique-clause-refused : goal.returns-in_err-extend_unique-clause-refused
returns-in_err-extend_unique-clause-refused g c =
    at_err c.from_residual.result c.in_err-extend_unique.field-0.0 _ (search rules) c.in_err-extend_unique.ensures.refused

pub returns-clause-most : goal.returns-clause-most
returns-clause-most g c = omega (arith, c.in_ok-extend_unique.ensures.most, c.default-map.ensures.capacity)
