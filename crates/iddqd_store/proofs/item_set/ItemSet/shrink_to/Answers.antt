use Rattle.std.proofs.Common.{◌≡◌, arith, ap, ◌∙◌}
use Rattle.iddqd_store.specs.Slots.Chain.{live_slots}
use Rattle.iddqd_store.proofs.SlotLemmas.Chain.{length-live_slots, view-live_slots, IsChained-compact}
use Rattle.iddqd_store.proofs.SlotLemmas.FreeBefore.{IsFreeBefore-start}
use Rattle.iddqd_store.proofs.item_set.ItemSet.shrink_to.Goals as goal

pub gathered-requires-clause-room : goal.gathered-requires-clause-room
gathered-requires-clause-room g c =
    rw c.replace-slots.ensures.value (omega (arith, length-live_slots c.self.inside.slots.items, c.in_ok-fresh.ensures.exact))

pub invariant_of-self : goal.invariant_of-self
invariant_of-self g c =
    let kept : c.gathered.result.items ≡ live_slots c.self.inside.slots.items = c.gathered.ensures.items ∙ ap (λ v. live_slots v.items) c.replace-slots.ensures.value in
    (IsChained-compact c.self.invariant.0 kept (omega arith), IsFreeBefore-start _)

pub returns-clause-slots : goal.returns-clause-slots
returns-clause-slots g c =
    let kept : c.gathered.result.items ≡ live_slots c.self.inside.slots.items = c.gathered.ensures.items ∙ ap (λ v. live_slots v.items) c.replace-slots.ensures.value in
    rw (← c.self.view_is, kept) (view-live_slots c.self.inside.slots.items)
