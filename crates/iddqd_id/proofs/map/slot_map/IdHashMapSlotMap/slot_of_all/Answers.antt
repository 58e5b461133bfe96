-- Written by hand; tests/one_key.patch says why.
use Rattle.std.proofs.Common.{arith}
use Rattle.iddqd_id.proofs.FoundLemmas.{found_by_only}
use Rattle.iddqd_id.proofs.map.slot_map.IdHashMapSlotMap.slot_of_all.Goals as goal

pub returns-clause-found : goal.returns-clause-found
returns-clause-found g c = found_by_only _ _ _ (rw c.key.ensures at c.slot_of.ensures.found)

pub returns-clause-costs : goal.returns-clause-costs
returns-clause-costs g c = record { answer = _; between = c.slot_of.new.costs.asked; search = rw c.key.ensures at c.slot_of.ensures.costs; rest = omega arith }
