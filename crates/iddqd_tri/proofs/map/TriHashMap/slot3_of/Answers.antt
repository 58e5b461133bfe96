-- Made by tests/widths from crates/iddqd_bi/proofs/map/BiHashMap/slot2_of/Answers.antt: change that file.
use Rattle.iddqd_store.proofs.RankLemmas.Costs.{SearchCosts-room}
use Rattle.iddqd_tri.proofs.map.TriHashMap.slot3_of.Goals as goal

pub returns-clause-costs : goal.returns-clause-costs
returns-clause-costs g c =
    rw (← c.by_key3.ensures.slots, ← c.by_key3.ensures.builder) (SearchCosts-room c.args.self.now.capacity c.by_key3.ensures.room c.slot_of.ensures.costs)
