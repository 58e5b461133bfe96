use Rattle.iddqd_order.proofs.WalkLemmas.{is_walked}
use Rattle.iddqd_ord.proofs.map.IdOrdMap.iter.Goals as goal

pub returns-clause-walked : goal.returns-clause-walked
returns-clause-walked g c = is_walked

pub returns-clause-ascending : goal.returns-clause-ascending
returns-clause-ascending g c = rw (← c.self.view_is) c.self.invariant
