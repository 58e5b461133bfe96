-- Made by tests/widths from crates/iddqd_bi/proofs/map/BiHashMap/least_capacity/Answers.antt: change that file.
use Rattle.std.proofs.Common.{arith}
use Rattle.iddqd_store.proofs.RankLemmas.Index.{length-index}
use Rattle.iddqd_store.proofs.SlotLemmas.Contents.{length-contents}
use Rattle.iddqd_id.proofs.map.IdHashMap.least_capacity.Goals as goal

pub returns-clause-fits : goal.returns-clause-fits
returns-clause-fits g c =
    let one = length-index c.self.invariant.indexes.0 in
    let all = length-contents c.self.inside.items.slots in
    rw (← c.self.view_is) (omega arith)
