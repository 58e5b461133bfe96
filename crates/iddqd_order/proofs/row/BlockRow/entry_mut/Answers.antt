use Rattle.std.proofs.Common.{ℕ, ◌<◌, List, length, get_or, set, refl, ap, ◌∙◌, arith}
use Rattle.iddqd_order.specs.Row.{BlockValue, RowValue, entry_lists}
use Rattle.iddqd_order.proofs.LineLemmas.{block_read, length-entry_lists, entry_lists-set}
use Rattle.iddqd_order.proofs.row.BlockRow.entry_mut.Goals as goal

abbrev row_with : {E : Type 0} → List (List E) → ℕ → ℕ → ℕ → RowValue E
row_with blocks spare memory most = record { blocks = blocks; spare = spare; memory = memory; most = most }

pub returns : goal.returns
returns g c =
    let values = c.self.inside.blocks.items in
    let b = c.args.place.block in
    let k = c.args.place.offset in
    let old = c.index_mut.result.now in
    let x = c.entry_mut.result.now in
    let there = rw (← c.self.view_is) at c.requires.block in
    let within : b < length values = omega (arith, there, length-entry_lists values) in
    let read = block_read values b old within c.index_mut.ensures.value in (
      (
        refl,
        λ w.
            let new : BlockValue g.row.E.Denot = record { entries = set old.entries k w; room = old.room } in
            rw (← c.self.view_is) (ap (λ (q : List (List g.row.E.Denot)). row_with q (length c.self.inside.spare.items) c.self.inside.memory c.self.inside.most)
            (entry_lists-set values b new ∙ ap (λ (q : List g.row.E.Denot). set (entry_lists values) b (set q k w)) read)),
      ),
      record { writes_back = tt; value = rw (← c.self.view_is) (c.entry_mut.ensures.value ∙ ap (λ (q : List g.row.E.Denot). get_or q k x) read) },
    )
