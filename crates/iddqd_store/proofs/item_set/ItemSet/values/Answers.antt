use Rattle.std.proofs.Common.{refl, sym, map, ◌∙◌}
use Rattle.iddqd_store.specs.Slots.Chain.{item_of}
use Rattle.iddqd_store.proofs.SlotLemmas.Contents.{length-contents}
use Rattle.iddqd_store.proofs.item_set.ItemSet.values.Goals as goal

pub invariant_of-result : goal.invariant_of-result
invariant_of-result g c = rw c.as_slice.ensures.value (c.self.invariant.0.counted ∙ sym (length-contents (map item_of c.self.inside.slots.items)))

pub returns-clause-gives : goal.returns-clause-gives
returns-clause-gives g c = rw (← c.self.view_is, c.as_slice.ensures.value) refl

pub returns-clause-len : goal.returns-clause-len
returns-clause-len g c = rw (← c.self.view_is, c.as_slice.ensures.value) (length-contents (map item_of c.self.inside.slots.items))
