use Rattle.iddqd_store.specs.Slots.{get}
use Rattle.iddqd_store.proofs.SlotLemmas.Next.{comes_next, nothing_left}
use Rattle.iddqd_store.proofs.MapLemmas.Walking.{passes, first_is, live_is}
use Rattle.iddqd_bi.proofs.map.BiHashMap.slot_from.Goals as goal

pub returns-in-Some-clause-comes : goal.returns-in-Some-clause-comes
returns-in-Some-clause-comes g c = rw (← c.self.view_is) (λ x is. comes_next c.self.inside.items.slots c.args.from c.in-Some.slot x c.in-Some.ensures.next.0 is c.in-Some.ensures.next.2)

pub returns-in-Some-clause-next : goal.returns-in-Some-clause-next
returns-in-Some-clause-next g c =
    let at = live_is (get c.self.inside.items.slots c.in-Some.slot) c.in-Some.ensures.next.1 in
    rw (← c.self.view_is) (
      at.0,
      at.1,
      passes _ c.args.from c.in-Some.slot at.0 (comes_next c.self.inside.items.slots c.args.from c.in-Some.slot at.0 c.in-Some.ensures.next.0 at.1 c.in-Some.ensures.next.2),
    )

pub returns-in-Some-clause-first_from : goal.returns-in-Some-clause-first_from
returns-in-Some-clause-first_from g c =
    let at = live_is (get c.self.inside.items.slots c.in-Some.slot) c.in-Some.ensures.next.1 in
    rw (← c.self.view_is) (first_is c.self.inside.items.slots c.args.from c.in-Some.slot at.0 c.in-Some.ensures.next.0 at.1 c.in-Some.ensures.next.2)

pub returns-in-None-clause-end : goal.returns-in-None-clause-end
returns-in-None-clause-end g c = rw (← c.self.view_is) (nothing_left c.self.inside.items.slots c.args.from c.in-None.ensures.next)
