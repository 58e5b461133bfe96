use Rattle.std.proofs.Common.{◌≡◌, ◌+◌, ◌<◌, ◌∷◌, [], ◌++◌, List, length, get_or, sym, ap, ◌∙◌, arith, append_assoc}
use Rattle.std.proofs.lemmas.List.{length-append, get_or-set_other}
use Rattle.iddqd_order.proofs.LineLemmas.{block_read, length-entry_lists, IsMoved-entry_lists}
use Rattle.iddqd_order.proofs.row.BlockRow.pass_up.Goals as goal

pub returns-clause-moved : goal.returns-clause-moved
returns-clause-moved g c =
    let values = c.self.inside.blocks.items in
    let at = c.args.at in
    let there = rw (← c.self.view_is) at c.requires.within in
    let within : at + 1 < length values = omega (arith, there, length-entry_lists values) in
    let block = c.index_mut-block.result.now in
    let next = c.index_mut-next.result.now in
    let left = c.take_last-entry.new.self in
    let x = c.take_last-entry.result in
    let read_next : next ≡ get_or values (at + 1) next = c.index_mut-next.ensures.value ∙ get_or-set_other values at (at + 1) left next (λ e. absurd (omega (arith, e))) in
    let short = ap length c.take_last-entry.ensures.parts ∙ length-append left.entries (x ∷ []) in
    let here = ap length (block_read values at block (omega (arith, within)) c.index_mut-block.ensures.value) in
    let beside = ap length (block_read values (at + 1) next within read_next) in
    let longer = ap length c.insert.ensures.entries in
    let parts = ap (λ (q : List g.row.E.Denot). left.entries ++ q) c.insert.ensures.entries ∙ sym (append_assoc left.entries (x ∷ []) next.entries) ∙ ap (λ (q : List g.row.E.Denot). q ++ next.entries) (sym c.take_last-entry.ensures.parts) in
    rw (← c.self.view_is) (IsMoved-entry_lists values at block next left c.insert.new.self within c.index_mut-block.ensures.value read_next parts _ _ (omega (arith, short, here)) (omega (arith, longer, beside)))
