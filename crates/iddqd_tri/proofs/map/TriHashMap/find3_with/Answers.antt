-- Made by tests/widths from crates/iddqd_bi/proofs/map/BiHashMap/find2_with/Answers.antt: change that file.
use Rattle.iddqd_store.proofs.RankLemmas.Costs.{SearchCosts-room}
use Rattle.iddqd_tri.proofs.map.TriHashMap.find3_with.Goals as goal

pub returns-clause-costs : goal.returns-clause-costs
returns-clause-costs g c =
    rw (← c.by_key3.ensures.slots, ← c.by_key3.ensures.builder) (SearchCosts-room c.args.self.now.capacity c.by_key3.ensures.room c.find_with.ensures.costs)
