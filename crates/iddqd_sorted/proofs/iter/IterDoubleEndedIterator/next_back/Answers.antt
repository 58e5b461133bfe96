use Rattle.std.proofs.Common.{◌∷◌, [], length, sym, ap, ◌∙◌, arith}
use Rattle.std.proofs.lemmas.List.{length-append}
use Rattle.std.proofs.lemmas.List.Elements.{All-pop}
use Rattle.std.specs.Prelude.{Some}
use Rattle.iddqd_store.specs.Slots.{IsLive}
use Rattle.iddqd_sorted.specs.Entries.{item_in, items_in}
use Rattle.iddqd_sorted.proofs.Entries.{items-last}
use Rattle.iddqd_sorted.proofs.iter.IterDoubleEndedIterator.next_back.Goals as goal

pub invariant_of-self-2 : goal.invariant_of-self-2
invariant_of-self-2 g c = (All-pop (λ e. IsLive c.self.inside.items.now.slots e.slot) _ _ (Some c.in-Some.entry.now) c.in-Some.ensures.steps c.self.invariant).0

pub returns-clause-steps : goal.returns-clause-steps
returns-clause-steps g c =
    let slots = c.self.inside.items.now.slots in
    sym c.self.view_is ∙ (ap (items_in slots) c.in-Some.ensures.steps ∙ items-last (item_in slots) _ c.in-Some.entry.now _ c.item.ensures)

pub returns-clause-goes : goal.returns-clause-goes
returns-clause-goes g c =
    let steps = ap length (returns-clause-steps g c) ∙ length-append _ (c.item.result.now ∷ []) in
    record { on = λ f. (tt, tt, omega (arith, steps)); keeps = tt; rests = λ f. tt }
