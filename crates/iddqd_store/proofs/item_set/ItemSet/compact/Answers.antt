use Rattle.std.proofs.Common.{◌≡◌, rules, arith, is_some}
use Rattle.std.proofs.lemmas.List.Elements.{filter_from_retain}
use Rattle.iddqd_store.specs.Slots.Chain.{item_of, live_slots}
use Rattle.iddqd_store.proofs.SlotLemmas.Chain.{view-live_slots, IsChained-compact}
use Rattle.iddqd_store.proofs.SlotLemmas.FreeBefore.{IsFreeBefore-start}
use Rattle.iddqd_store.proofs.item_set.ItemSet.compact.Goals as goal

pub invariant_of-self : goal.invariant_of-self
invariant_of-self g c =
    let kept : c.retain.new.self.items ≡ live_slots c.self.inside.slots.items = filter_from_retain _ (λ slot. is_some (item_of slot)) (λ p x b q h. search rules) _ _ _ c.retain.ensures.filtered in
    (IsChained-compact c.self.invariant.0 kept (omega arith), IsFreeBefore-start _)

pub returns-clause-slots : goal.returns-clause-slots
returns-clause-slots g c =
    let kept : c.retain.new.self.items ≡ live_slots c.self.inside.slots.items = filter_from_retain _ (λ slot. is_some (item_of slot)) (λ p x b q h. search rules) _ _ _ c.retain.ensures.filtered in
    rw (← c.self.view_is, kept) (view-live_slots c.self.inside.slots.items)
