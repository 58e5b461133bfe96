use Rattle.std.proofs.Common.{List, length, ap, sym, ◌∙◌, arith}
use Rattle.std.proofs.lemmas.List.{append-nil}
use Rattle.iddqd_order.specs.Row.{line, entry_lists}
use Rattle.iddqd_order.proofs.iter.Iter.all.Goals as goal

pub invariant_of-result : goal.invariant_of-result
invariant_of-result g c =
    let same = ap length (append-nil (line (entry_lists c.blocks-2.result.now)) ∙ ap line c.blocks-2.ensures.value) in
    (c.blocks-2.ensures.filled, omega (arith, same, c.requires, c.ranges.count.fits), c.requires ∙ sym (ap (λ (q : List (List g.row.E.Denot)). length (line q)) c.blocks-2.ensures.value))
