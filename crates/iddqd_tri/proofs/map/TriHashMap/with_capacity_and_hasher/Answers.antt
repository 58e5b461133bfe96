-- Made by tests/widths from crates/iddqd_bi/proofs/map/BiHashMap/with_capacity_and_hasher/Answers.antt: change that file.
use Rattle.iddqd_store.proofs.RankLemmas.Invariant.{IsIndexed-empty}
use Rattle.iddqd_tri.proofs.map.TriHashMap.with_capacity_and_hasher.Goals as goal

pub invariant_of-result : goal.invariant_of-result
invariant_of-result g c = rw (c.in_ok-with_capacity.ensures.slots, c.in_ok-first.ensures.empty, c.in_ok-second.ensures.empty, c.in_ok-third.ensures.empty) (IsIndexed-empty _ _)
