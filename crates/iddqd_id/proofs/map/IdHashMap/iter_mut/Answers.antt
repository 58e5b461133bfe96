-- Made by tests/widths from crates/iddqd_bi/proofs/map/BiHashMap/iter_mut/Answers.antt: change that file.
use Rattle.std.proofs.Common.{refl}
use Rattle.iddqd_id.proofs.map.IdHashMap.iter_mut.Goals as goal

pub returns-clause-gives : goal.returns-clause-gives
returns-clause-gives g c = refl

pub returns-clause-counted : goal.returns-clause-counted
returns-clause-counted g c = c.len-left.ensures.value
