-- Made by tests/widths from crates/iddqd_bi/proofs/map/BiHashMap/remove_each/Answers.antt: change that file.
use Rattle.std.proofs.Common.{◌++◌, sym, ap, ◌∙◌, drop}
use Rattle.iddqd_store.specs.Slots.{contents}
use Rattle.iddqd_store.proofs.SlotLemmas.Next.{before_and_behind, emptied_before}
use Rattle.iddqd_id.proofs.map.IdHashMap.remove_each.Goals as goal

pub loop-slot-preserved : goal.loop-slot-preserved
loop-slot-preserved g c =
    let at = c.loop-slot in
    record {
      empty = rw (c.number-from.ensures.value, c.remove_at.ensures.slots)
          (emptied_before at.self.slots at.from c.in-Some.slot c.remove_at.result (c.in-Some.ensures.comes _ c.remove_at.ensures.value) ∙ at.invariant.empty);
      capacity = c.remove_at.ensures.loses.same_room ∙ at.invariant.capacity;
      builder = c.remove_at.ensures.loses.same_builder ∙ at.invariant.builder;
    }

pub returns-clause-empty : goal.returns-clause-empty
returns-clause-empty g c =
    let at = c.loop-slot in
    sym (before_and_behind at.self.slots at.from)
    ∙ ap (λ l. l ++ contents (drop at.from at.self.slots)) at.invariant.empty
    ∙ c.in_default.ensures.end
