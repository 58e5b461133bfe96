use Rattle.std.proofs.Common.{Some, sym, ap, ◌≡◌, map, length, ◌∙◌, arith}
use Rattle.std.proofs.lemmas.List.{map-set, map_push, length-map}
use Rattle.iddqd_store.specs.declared.item_set.Slot.TheVariants.{Live, Free}
use Rattle.iddqd_store.specs.Slots.Chain.{item_of}
use Rattle.iddqd_store.proofs.SlotLemmas.Chain.{full_at_end, next_within, next_is_vacant, read_at_next, next_is_not_occupied, count-set, IsChained-push, IsChained-fill}
use Rattle.iddqd_store.proofs.SlotLemmas.Chain.{Updates-set, members-push, members-put}
use Rattle.iddqd_store.proofs.SlotLemmas.FreeBefore.{IsFreeBefore-less, IsFreeBefore-push, IsFreeBefore-set}
use Rattle.iddqd_store.proofs.item_set.ItemSet.insert_reserved.Goals as goal

pub push_reserved-requires : goal.push_reserved-requires
push_reserved-requires g c =
    let room = rw (← c.self.view_is) at c.requires in
    omega (arith, full_at_end _ _ _ c.self.invariant.0 (omega arith))

pub invariant_of-self : goal.invariant_of-self
invariant_of-self g c = rw c.push_reserved.ensures.items (IsChained-push _ _ _ c.args.item c.self.invariant.0 (omega arith), IsFreeBefore-push _ _ _ c.self.invariant.1)

pub returns-then-slot-len-clause-members : goal.returns-then-slot-len-clause-members
returns-then-slot-len-clause-members g c =
    let slots = map item_of c.self.inside.slots.items in
    let at_end : c.self.inside.next_free ≡ length slots = omega (arith, length-map c.self.inside.slots.items item_of) in
    rw (← c.self.view_is, c.push_reserved.ensures.items, map_push, c.new.ensures, at_end) (members-push slots c.args.item)

pub index_mut-requires : goal.index_mut-requires
index_mut-requires g c = omega (arith, next_within _ _ _ c.self.invariant.0 (λ e. omega arith))

pub invariant_of-self-2 : goal.invariant_of-self-2
invariant_of-self-2 g c =
    let found = read_at_next c.self.invariant.0 (λ e. omega arith) c.index_mut.ensures.value in
    let reused = IsFreeBefore-less _ _ c.min-self-inside.result (omega arith) c.self.invariant.1 in
    rw c.replace.ensures.after (IsChained-fill c.args.item c.self.invariant.0 (found ∙ ap Some (sym c.replace.ensures.value ∙ c.in-Free.is)), IsFreeBefore-set _ (omega arith) reused)

pub unreachable-requires : goal.unreachable-requires
unreachable-requires g c =
    let found = read_at_next c.self.invariant.0 (λ e. omega arith) c.index_mut.ensures.value in
    next_is_not_occupied c.self.invariant.0 (found ∙ ap Some (sym c.replace.ensures.value ∙ c.in-Live.is))

pub returns-clause-updates : goal.returns-clause-updates
returns-clause-updates g c =
    let within = next_within _ _ _ c.self.invariant.0 (λ e. omega arith) in
    rw (← c.self.view_is, c.new-2.ensures) (Updates-set (omega (arith, within, length-map c.self.inside.slots.items item_of)) (rw (c.replace.ensures.after, map-set)))

pub returns-clause-members : goal.returns-clause-members
returns-clause-members g c =
    let within = next_within _ _ _ c.self.invariant.0 (λ e. omega arith) in
    rw (← c.self.view_is, c.replace.ensures.after, map-set, c.new-2.ensures)
    (members-put _ _ _ (omega (arith, within, length-map c.self.inside.slots.items item_of)) (next_is_vacant _ _ _ c.self.invariant.0))

pub returns-clause-count : goal.returns-clause-count
returns-clause-count g c =
    let found = read_at_next c.self.invariant.0 (λ e. omega arith) c.index_mut.ensures.value in
    let vacant = found ∙ ap Some (sym c.replace.ensures.value ∙ c.in-Free.is) in
    let counted = count-set c.self.inside.slots.items c.self.inside.next_free (Free c.in-Free.next) (Live c.args.item) vacant in
    rw (← c.self.view_is, c.replace.ensures.after) (omega arith)
