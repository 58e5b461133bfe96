use Rattle.std.proofs.Common.{◌≡◌, ℕ, ◌-◌, ◌<◌, [], ◌∷◌, ◌++◌, length, take, sym, ap, ◌∙◌, arith}
use Rattle.std.proofs.lemmas.List.{length-append}
use Rattle.iddqd_order.specs.Row.{BlockValue, entry_lists, line}
use Rattle.iddqd_order.proofs.IterLemmas.{last_left, All-front}
use Rattle.iddqd_order.proofs.into_iter.IntoIterDoubleEndedIterator.next_back.Goals as goal

pub returns-clause-steps : goal.returns-clause-steps
returns-clause-steps g c =
    let it = c.self.inside in
    let last = c.in-Some-pop_back in
    let none : length it.back.items ≡ 0 = omega (arith, ap length c.in_default.ensures.items, length-append c.pop_back.new.self.items [], ap length c.in_default.ensures.rest, ap (λ (n : ℕ). length (take (n - 1) it.back.items)) c.in_default.ensures.cases.0) in
    sym c.self.view_is ∙ last_left it.front.items it.blocks.items c.pop_back-2.new.self.items it.back.items last.block c.into_last-entry.result.0 c.into_last-entry.result.1.items none last.ensures.items c.into_last-entry.ensures

pub overflow_sub-self-2 : goal.overflow_sub-self-2
overflow_sub-self-2 g c =
    let it = c.self.inside in
    let last = c.in-Some-pop_back in
    let none : length it.back.items ≡ 0 = omega (arith, ap length c.in_default.ensures.items, length-append c.pop_back.new.self.items [], ap length c.in_default.ensures.rest, ap (λ (n : ℕ). length (take (n - 1) it.back.items)) c.in_default.ensures.cases.0) in
    let left = it.front.items ++ (line (entry_lists c.pop_back-2.new.self.items) ++ c.into_last-entry.result.1.items) in
    let parts = last_left it.front.items it.blocks.items c.pop_back-2.new.self.items it.back.items last.block c.into_last-entry.result.0 c.into_last-entry.result.1.items none last.ensures.items c.into_last-entry.ensures in
    omega (arith, ap length parts, length-append left (c.into_last-entry.result.0 ∷ []), c.self.invariant.1)

pub invariant_of-self-2 : goal.invariant_of-self-2
invariant_of-self-2 g c =
    let it = c.self.inside in
    let last = c.in-Some-pop_back in
    let left = it.front.items ++ (line (entry_lists c.pop_back-2.new.self.items) ++ c.into_last-entry.result.1.items) in
    let steps = ap length (c.self.view_is ∙ returns-clause-steps g c) ∙ length-append left (c.into_last-entry.result.0 ∷ []) in
    (All-front (λ (r : BlockValue g.row.E.Denot). 0 < length r.entries) it.blocks.items c.pop_back-2.new.self.items last.block last.ensures.items c.self.invariant.0, omega (arith, steps, c.self.invariant.1))

pub returns-clause-goes : goal.returns-clause-goes
returns-clause-goes g c =
    let left = c.self.inside.front.items ++ (line (entry_lists c.pop_back-2.new.self.items) ++ c.into_last-entry.result.1.items) in
    let steps = ap length (returns-clause-steps g c) ∙ length-append left (c.into_last-entry.result.0 ∷ []) in
    record { on = λ f. (tt, tt, omega (arith, steps)); keeps = tt; rests = λ f. tt }
