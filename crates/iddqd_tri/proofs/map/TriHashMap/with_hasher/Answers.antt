-- Made by tests/widths from crates/iddqd_bi/proofs/map/BiHashMap/with_hasher/Answers.antt: change that file.
use Rattle.iddqd_store.proofs.RankLemmas.Invariant.{IsIndexed-empty}
use Rattle.iddqd_tri.proofs.map.TriHashMap.with_hasher.Goals as goal

pub invariant_of-result : goal.invariant_of-result
invariant_of-result g c = rw (c.new.ensures.slots, c.new-2.ensures.pairs, c.new-3.ensures.pairs, c.new-4.ensures.pairs) (IsIndexed-empty _ _)
