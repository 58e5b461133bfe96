-- Made by tests/widths from crates/iddqd_bi/proofs/map/BiHashMap/insert_unique/Answers.antt: change that file.
use Rattle.std.proofs.Common.{sym, ◌∙◌}
use Rattle.iddqd_store.specs.Map.{bag}
use Rattle.iddqd_store.proofs.BagLemmas.Steps.{conflicting-empty}
use Rattle.iddqd_id.specs.Keys.{ranks}
use Rattle.iddqd_id.proofs.FoundLemmas.{one_item}
use Rattle.iddqd_id.proofs.map.IdHashMap.insert_unique.Goals as goal

pub invariant_of-self : goal.invariant_of-self
invariant_of-self g c =
    let arm = c.in-Err-Duplicate in
    let why = rw arm.field-0-is at arm.ensures.reason in
    let item = rw arm.field-0-is at arm.ensures.handed_back in
    record { found_is = rw (c.slot-slot.ensures, item, arm.ensures.unchanged) (one_item c.args.self.now.slots arm.found.slot ∙ why.conflict.found.items) }

pub invariant_of-self-in-Err-Memory : goal.invariant_of-self-in-Err-Memory
invariant_of-self-in-Err-Memory g c =
    let ranks = ranks g.T.IdHashItem g.T.Key.PartialEq.eq in
    let arm = c.in-Err-Memory in
    let full = rw arm.field-0-is at arm.ensures.reason in
    let item = rw arm.field-0-is at arm.ensures.handed_back in
    rw (item, arm.ensures.unchanged) record { found_is = sym (conflicting-empty ranks (bag c.args.self.now) c.args.item full.free) }
