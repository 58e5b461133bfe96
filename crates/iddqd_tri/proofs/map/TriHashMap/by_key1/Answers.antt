-- Made by tests/widths from crates/iddqd_bi/proofs/map/BiHashMap/by_key1/Answers.antt: change that file.
use Rattle.iddqd_store.proofs.RankLemmas.Invariant.{first_rank}
use Rattle.iddqd_tri.proofs.map.TriHashMap.by_key1.Goals as goal

pub new-requires : goal.new-requires
new-requires g c = first_rank c.self.invariant

pub returns-clause-apart : goal.returns-clause-apart
returns-clause-apart g c = rw (← c.self.view_is) (first_rank c.self.invariant).apart
