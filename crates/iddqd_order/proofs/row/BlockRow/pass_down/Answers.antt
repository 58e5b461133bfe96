use Rattle.std.proofs.Common.{◌≡◌, ◌+◌, ◌-◌, ◌<◌, ◌∷◌, [], ◌++◌, List, length, get_or, ap, ◌∙◌, subst, arith, append_assoc}
use Rattle.std.proofs.lemmas.List.{length-append, get_or-set_other, set_comm}
use Rattle.std.proofs.lemmas.List.Edits.{length-remove}
use Rattle.iddqd_order.specs.Row.{BlockValue, entry_lists, block_at, IsMoved}
use Rattle.iddqd_order.proofs.LineLemmas.{block_read, length-entry_lists, first_removed, IsMoved-entry_lists}
use Rattle.iddqd_order.proofs.row.BlockRow.pass_down.Goals as goal

pub returns-clause-moved : goal.returns-clause-moved
returns-clause-moved g c =
    let values = c.self.inside.blocks.items in
    let at = c.args.at in
    let there = rw (← c.self.view_is) at c.requires.within in
    let many = rw (← c.self.view_is) at c.requires.many in
    let within : at + 1 < length values = omega (arith, there, length-entry_lists values) in
    let next = c.index_mut-next.result.now in
    let block = c.index_mut-block.result.now in
    let rest = c.remove-entry.new.self in
    let full = c.push.new.self in
    let x = c.remove-entry.result in
    let read : block ≡ get_or values at block = c.index_mut-block.ensures.value ∙ get_or-set_other values (at + 1) at rest block (λ e. absurd (omega (arith, e))) in
    let here = ap length (block_read values at block (omega (arith, within)) read) in
    let beside = ap length (block_read values (at + 1) next within c.index_mut-next.ensures.value) in
    let longer = ap length c.push.ensures.entries ∙ length-append block.entries (x ∷ []) in
    let short = ap length c.remove-entry.ensures.rest in
    let one = length-remove next.entries 0 (omega (arith, many, beside)) in
    let first = first_removed next.entries x (omega (arith, many, beside)) c.remove-entry.ensures.value in
    let parts = ap (λ (q : List g.row.E.Denot). q ++ rest.entries) c.push.ensures.entries ∙ append_assoc block.entries (x ∷ []) rest.entries
    ∙ ap (λ (q : List g.row.E.Denot). block.entries ++ x ∷ q) c.remove-entry.ensures.rest ∙ ap (λ (q : List g.row.E.Denot). block.entries ++ q) first in
    let order = set_comm values at (at + 1) full rest (λ e. absurd (omega (arith, e))) in
    let moved = IsMoved-entry_lists values at block next full rest within read c.index_mut-next.ensures.value parts _ _ (omega (arith, longer, here)) (omega (arith, short, one, beside)) in
    rw (← c.self.view_is) (subst (λ (q : List (BlockValue g.row.E.Denot)). IsMoved (entry_lists values) (entry_lists q) at (length (block_at (entry_lists values) at) + 1) (length (block_at (entry_lists values) (at + 1)) - 1)) order moved)
