use Rattle.std.proofs.Common.{sym, ap, ◌∙◌}
use Rattle.iddqd_store.specs.Map.{bag}
use Rattle.iddqd_store.specs.Slots.Found.{items_at}
use Rattle.iddqd_store.proofs.BagLemmas.Steps.{conflicting-empty}
use Rattle.iddqd_store.proofs.MapLemmas.Places.{stand_in}
use Rattle.iddqd_bi.specs.Keys.{ranks}
use Rattle.iddqd_bi.proofs.map.BiHashMap.insert_unique.Goals as goal

pub invariant_of-self : goal.invariant_of-self
invariant_of-self g c =
    let arm = c.in-Err-Duplicate in
    let why = rw arm.field-0-is at arm.ensures.reason in
    let item = rw arm.field-0-is at arm.ensures.handed_back in
    let stand = stand_in (rw (c.slot.ensures, c.slot-in-Err-Duplicate.ensures) at c.each_once-slots.ensures) why.conflict.found in
    record { found_is = rw (item, arm.ensures.unchanged) stand.items }

pub invariant_of-self-in-Err-Memory : goal.invariant_of-self-in-Err-Memory
invariant_of-self-in-Err-Memory g c =
    let ranks = ranks g.T.BiHashItem g.T.K1.PartialEq.eq g.T.K2.PartialEq.eq in
    let arm = c.in-Err-Memory in
    let full = rw arm.field-0-is at arm.ensures.reason in
    let item = rw arm.field-0-is at arm.ensures.handed_back in
    rw (item, arm.ensures.unchanged) record { found_is = ap (items_at c.args.self.now.slots) c.new-in-Err-Memory.ensures ∙ sym (conflicting-empty ranks (bag c.args.self.now) c.args.item full.free) }
