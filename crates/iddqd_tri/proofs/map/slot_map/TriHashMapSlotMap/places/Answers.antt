-- Made by tests/widths from crates/iddqd_bi/proofs/map/slot_map/BiHashMapSlotMap/places/Answers.antt: change that file.
use Rattle.iddqd_store.specs.Rank.All.{slots_found}
use Rattle.iddqd_store.specs.declared.index_table.searched.Searched.TheVariants.{Found, Vacant}
use Rattle.iddqd_tri.specs.Keys.{by_rank}
use Rattle.iddqd_tri.proofs.map.slot_map.TriHashMapSlotMap.places.Goals as goal

pub returns-in-Found-clause-conflicts : goal.returns-in-Found-clause-conflicts
returns-in-Found-clause-conflicts g c =
    let searched = c.in-Found.ensures in
    record { conflict = searched.conflict; found = searched.found; hashes = searched.hashes; hashed = searched.hashed }

pub returns-in-Vacant-clause-costs : goal.returns-in-Vacant-clause-costs
returns-in-Vacant-clause-costs g c = record { answers = slots_found (by_rank (Vacant c.in-Vacant.at)); searched = c.in-Vacant.ensures.costs }

pub returns-in-Found-clause-costs : goal.returns-in-Found-clause-costs
returns-in-Found-clause-costs g c = record { answers = slots_found (by_rank (Found c.in-Found.found)); searched = c.in-Found.ensures.costs }
