-- Made by tests/widths from crates/iddqd_bi/proofs/map/BiHashMap/pop_from/Answers.antt: change that file.
use Rattle.std.proofs.Common.{subst}
use Rattle.iddqd_store.specs.Slots.Next.{ComesNext}
use Rattle.iddqd_store.proofs.MapLemmas.Extracting.{pops-some}
use Rattle.iddqd_id.proofs.map.IdHashMap.pop_from.Goals as goal

pub returns-clause-pops_from : goal.returns-clause-pops_from
returns-clause-pops_from g c =
    let next = subst (λ k. ComesNext c.args.self.now.slots k c.in_ok-slot.slot c.remove_at.result) c.next.ensures (c.in_ok-slot.ensures.comes _ c.remove_at.ensures.value) in
    rw c.pass.ensures (pops-some c.args.self.now c.remove_at.new.self c.args.cursor.now c.in_ok-slot.slot c.remove_at.result next c.remove_at.ensures.slots)
