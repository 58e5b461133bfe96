-- Made by tests/widths from crates/iddqd_bi/proofs/map/BiHashMap/slot1_of/Answers.antt: change that file.
use Rattle.iddqd_store.proofs.RankLemmas.Costs.{SearchCosts-room}
use Rattle.iddqd_id.proofs.map.IdHashMap.slot_of.Goals as goal

pub returns-clause-costs : goal.returns-clause-costs
returns-clause-costs g c =
    rw (← c.by_key.ensures.slots, ← c.by_key.ensures.builder) (SearchCosts-room c.args.self.now.capacity c.by_key.ensures.room c.slot_of.ensures.costs)
