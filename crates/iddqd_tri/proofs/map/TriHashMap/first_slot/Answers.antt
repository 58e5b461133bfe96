-- Made by tests/widths from crates/iddqd_bi/proofs/map/BiHashMap/first_slot/Answers.antt: change that file.
use Rattle.std.proofs.Common.{rules, ◌≡◌, []}
use Rattle.iddqd_store.specs.Map.Walk.{to_come}
use Rattle.iddqd_store.proofs.SlotLemmas.Next.{nothing_left}
use Rattle.iddqd_tri.proofs.map.TriHashMap.first_slot.Goals as goal

pub returns-in_err-slot-clause-end : goal.returns-in_err-slot-clause-end
returns-in_err-slot-clause-end g c =
    let none : to_come c.args.self.now 0 ≡ [] = rw (← c.self.view_is) (nothing_left c.self.inside.items.slots 0 c.in_err-slot.ensures.next) in
    search rules
