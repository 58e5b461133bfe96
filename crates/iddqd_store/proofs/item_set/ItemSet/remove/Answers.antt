use Rattle.std.proofs.Common.{refl}
use Rattle.iddqd_store.proofs.SlotLemmas.Chain.{members-take}
use Rattle.iddqd_store.proofs.item_set.ItemSet.remove.Goals as goal

pub returns-then-is_live-clause-taken : goal.returns-then-is_live-clause-taken
returns-then-is_live-clause-taken g c =
    let found = rw c.number.ensures.value at c.vacate.ensures.value in
    record {
      slots = rw (c.vacate.ensures.slots, c.number.ensures.value) refl;
      members = rw (c.vacate.ensures.slots, c.number.ensures.value) (members-take _ _ _ found);
      room = c.vacate.ensures.room;
    }
