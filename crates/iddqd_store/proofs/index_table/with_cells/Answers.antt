use Rattle.std.proofs.Common.{◌≡◌, ◌∙◌, [], ap, length}
use Rattle.iddqd_store.specs.Slots.{contents}
use Rattle.iddqd_store.specs.Table.{Table}
use Rattle.iddqd_store.proofs.TableLemmas.Limits.{table_empty, length_held_empty, held_items-empty}
use Rattle.iddqd_store.proofs.index_table.with_cells.Goals as goal

pub invariant_of-table : goal.invariant_of-table
invariant_of-table c =
    let none : contents c.table.inside.cells ≡ [] = ap (λ (t : Table). t.pairs) c.table.view_is ∙ c.new-table.ensures.pairs in
    rw c.in_ok-table-inside.ensures (table_empty c.args.count c.requires, c.table.invariant.1 ∙ (ap length none ∙ length_held_empty c.args.count))

pub returns-clause-empty : goal.returns-clause-empty
returns-clause-empty c = rw c.in_ok-table-inside.ensures (held_items-empty c.args.count)
