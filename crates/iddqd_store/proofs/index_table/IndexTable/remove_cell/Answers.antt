use Rattle.std.proofs.Common.{arith, ℕ, List, Option, Some, length, ◌≡◌, ◌+◌, ◌∷◌}
use Rattle.std.proofs.lemmas.List.Sorted.{length_permutation}
use Rattle.std.specs.List.Sorted.{IsPermutation}
use Rattle.iddqd_store.specs.Slots.{contents}
use Rattle.iddqd_store.specs.Table.Ring.{cell}
use Rattle.iddqd_store.specs.Table.{IsCellOf}
use Rattle.iddqd_store.proofs.index_table.IndexTable.remove_cell.Goals as goal

-- one pair less
one_less : (row after : List (Option (ℕ × ℕ))) (x : ℕ × ℕ) (at : ℕ) → IsCellOf row x at
    → ((pair : ℕ × ℕ) → cell row at ≡ Some pair → IsPermutation (contents row) (pair ∷ contents after))
    → length (contents row) ≡ length (contents after) + 1
one_less row after x at there taken =
    let same : length (x ∷ contents after) ≡ length (contents row) = length_permutation _ _ (taken x there.stands) in
    omega arith

pub overflow_sub-self : goal.overflow_sub-self
overflow_sub-self c =
    let less = one_less c.self.inside.cells c.close_up.new.cells (c.args.hash, c.args.found.0) c.args.found.1 (rw (← c.self.view_is) at c.requires) c.close_up.ensures.removed in
    omega (arith, c.self.invariant.1, less)

pub invariant_of-self : goal.invariant_of-self
invariant_of-self c =
    let less = one_less c.self.inside.cells c.close_up.new.cells (c.args.hash, c.args.found.0) c.args.found.1 (rw (← c.self.view_is) at c.requires) c.close_up.ensures.removed in
    (c.close_up.ensures.table, omega (arith, c.self.invariant.1, less))

pub returns-clause-room : goal.returns-clause-room
returns-clause-room c =
    let less = one_less c.self.inside.cells c.close_up.new.cells (c.args.hash, c.args.found.0) c.args.found.1 (rw (← c.self.view_is) at c.requires) c.close_up.ensures.removed in
    omega (arith, c.self.invariant.0.fits, c.close_up.ensures.len, less)
