-- Made by tests/widths from crates/iddqd_bi/proofs/map/BiHashMap/clear/Answers.antt: change that file.
use Rattle.iddqd_store.proofs.RankLemmas.Invariant.{IsIndexed-empty}
use Rattle.iddqd_id.proofs.map.IdHashMap.clear.Goals as goal

pub invariant_of-self : goal.invariant_of-self
invariant_of-self g c = rw (c.clear.ensures.pairs, c.clear-2.ensures.slots) (IsIndexed-empty _ _)
