use Rattle.iddqd_store.proofs.RankLemmas.Invariant.{IsIndexed-empty}
use Rattle.iddqd_bi.proofs.map.BiHashMap.clear.Goals as goal

pub invariant_of-self : goal.invariant_of-self
invariant_of-self g c = rw (c.clear.ensures.pairs, c.clear-2.ensures.pairs, c.clear-3.ensures.slots) (IsIndexed-empty _ _)
