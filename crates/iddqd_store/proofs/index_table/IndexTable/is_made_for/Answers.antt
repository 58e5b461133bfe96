use Rattle.std.proofs.Common.{arith, refl, length, ◌≡◌}
use Rattle.std.specs.Prelude.{true, false}
use Rattle.std.proofs.lemmas.Bool.Decides.{nat_tests}
use Rattle.iddqd_store.proofs.TableLemmas.Limits.{made_for, size_most}
use Rattle.iddqd_store.proofs.index_table.IndexTable.is_made_for.Goals as goal

pub returns : goal.returns
returns c =
    let sized = c.cells-cells.ensures.sized in
    let both = made_for c.args.pairs (length c.args.self.now.row) c.in-Some.least sized.size c.in-Some.ensures.size c.in-Some.ensures.least in
    let value = c.cells-cells.ensures.value in
    let limit = sized.limit in
    grind (arith, nat_tests, both)

-- if the cells for this many pairs are more than `usize` counts, no table has room for them
pub returns-in_default : goal.returns-in_default
returns-in_default c =
    let sized = c.cells-cells.ensures.sized in
    let most = size_most (length c.args.self.now.row) sized.size sized.counted in
    (λ no. absurd (let e : false ≡ true = no in cc), λ is. absurd (omega (arith, most, sized.limit, is.enough, c.in_default.ensures.past.0 refl)))
