use Rattle.iddqd_ord.proofs.map.IdOrdMap.len.Goals as goal

pub returns-clause-ascending : goal.returns-clause-ascending
returns-clause-ascending g c = rw (← c.self.view_is) c.self.invariant
