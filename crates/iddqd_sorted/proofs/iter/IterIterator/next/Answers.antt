use Rattle.std.proofs.lemmas.List.Elements.{All-rest}
use Rattle.iddqd_store.specs.Slots.{IsLive}
use Rattle.iddqd_sorted.proofs.iter.IterIterator.next.Goals as goal

pub invariant_of-self-2 : goal.invariant_of-self-2
invariant_of-self-2 g c = All-rest (λ e. IsLive c.self.inside.items.now.slots e.slot) c.in-Some.entry.now _ _ c.in-Some.ensures.steps c.self.invariant
