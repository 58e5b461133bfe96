-- Made by tests/widths from crates/iddqd_bi/proofs/map/BiHashMap/insert_or_refuse/Answers.antt: change that file.
use Rattle.std.proofs.Common.{arith}
use Rattle.iddqd_store.proofs.RankLemmas.Placing.{placing}
use Rattle.iddqd_tri.proofs.map.TriHashMap.insert_or_refuse.Goals as goal

pub returns-in-Found-clause-reason : goal.returns-in-Found-clause-reason
returns-in-Found-clause-reason g c =
    let searched = c.in-Found.ensures in
    record { conflict = searched.conflict; found = searched.found; hashes = searched.hashes; hashed = searched.hashed }

pub returns-in-Found-clause-costs : goal.returns-in-Found-clause-costs
returns-in-Found-clause-costs g c = placing _ _ c.places.ensures.costs (omega arith)

pub returns-in-Err-clause-costs : goal.returns-in-Err-clause-costs
returns-in-Err-clause-costs g c = placing _ _ c.places.ensures.costs (omega arith)

pub returns-clause-costs : goal.returns-clause-costs
returns-clause-costs g c = placing _ _ (rw (← c.costs.view_is) at c.places.ensures.costs) (rw c.make_room.ensures.slots at c.insert_into.ensures.costs)
