use Rattle.std.proofs.Common.{ℕ, ◌*◌, length, ap, ◌∙◌, arith}
use Rattle.std.proofs.lemmas.List.Edits.{length-remove}
use Rattle.iddqd_order.specs.Row.{line, position}
use Rattle.iddqd_order.proofs.LineLemmas.{read_any}
use Rattle.iddqd_order.proofs.PlaceLemmas.{position-below}
use Rattle.iddqd_order.proofs.blocks.Blocks.remove.Goals as goal

pub overflow_sub-self : goal.overflow_sub-self
overflow_sub-self g c =
    let place = rw (← c.self.view_is) at c.requires in
    omega (arith, position-below c.self.inside.row.blocks c.args.place place, c.self.invariant.counted)

pub invariant_of-self : goal.invariant_of-self
invariant_of-self g c =
    let row = c.self.inside.row.blocks in
    let i = c.self.invariant in
    let place = rw (← c.self.view_is) at c.requires in
    let below = position-below row c.args.place place in
    let kept = c.close_up-place.ensures.entries in
    let fewer = ap length (kept.entries ∙ c.remove-entry.ensures.rest) in
    let one = length-remove (line row) (position row c.args.place) below in
    let same = ap (λ (n : ℕ). c.self.inside.row.memory * n) (kept.total ∙ c.remove-entry.ensures.total) in
    let memory = kept.memory ∙ c.remove-entry.ensures.memory in
    record {
      counted = omega (arith, fewer, one, i.counted, below);
      fits = omega (arith, i.fits);
      held = rw memory (omega (arith, i.held, same));
      unused = i.unused;
      some = rw memory (λ any. omega (arith, i.some any, same));
    }

pub returns-clause-value : goal.returns-clause-value
returns-clause-value g c =
    let row = c.self.inside.row.blocks in
    let place = rw (← c.self.view_is) at c.requires in
    rw (← c.self.view_is) (λ d. read_any (line row) (position row c.args.place) c.remove-entry.result d (position-below row c.args.place place) c.remove-entry.ensures.value)

pub returns-clause-within : goal.returns-clause-within
returns-clause-within g c =
    let place = rw (← c.self.view_is) at c.requires in
    rw (← c.self.view_is) (position-below c.self.inside.row.blocks c.args.place place)
