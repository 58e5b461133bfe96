-- Made by tests/widths from crates/iddqd_bi/proofs/map/BiHashMap/iter/Answers.antt: change that file.
use Rattle.std.specs.Map.Iter.{deref}
use Rattle.std_collections.proofs.IterRuns.{shows_in_order}
use Rattle.iddqd_tri.proofs.map.TriHashMap.iter.Goals as goal

pub returns-clause-runs : goal.returns-clause-runs
returns-clause-runs g c = shows_in_order deref
