use Rattle.std.proofs.Common.{arith}
use Rattle.std.proofs.lemmas.List.{map-set}
use Rattle.iddqd_store.proofs.SlotLemmas.Chain.{occupied_at, count-set, IsChained-vacate}
use Rattle.iddqd_store.proofs.SlotLemmas.FreeBefore.{live_behind, IsFreeBefore-set}
use Rattle.iddqd_store.specs.declared.item_set.Slot.TheVariants.{Live, Free}
use Rattle.iddqd_store.proofs.item_set.ItemSet.vacate.Goals as goal

pub invariant_of-self : goal.invariant_of-self
invariant_of-self g c =
    let found = occupied_at c.self.inside.slots.items c.args.slot (rw (← c.self.view_is) at c.requires) in
    let behind = live_behind _ _ c.args.slot found.0 c.self.invariant.1 found.1 in
    rw c.replace.ensures.after (IsChained-vacate _ _ _ c.args.slot found.0 c.self.invariant.0 found.1, IsFreeBefore-set _ behind c.self.invariant.1)

pub returns-clause-slots : goal.returns-clause-slots
returns-clause-slots g c = rw (← c.self.view_is, c.replace.ensures.after, map-set)

pub returns-clause-room : goal.returns-clause-room
returns-clause-room g c =
    let found = occupied_at c.self.inside.slots.items c.args.slot (rw (← c.self.view_is) at c.requires) in
    let fewer = count-set c.self.inside.slots.items c.args.slot (Live found.0) (Free c.self.inside.next_free) found.1 in
    rw c.replace.ensures.after (omega (arith, fewer, c.self.invariant.0.counted, c.self.invariant.0.total, c.self.inside.slots.ok.1))
