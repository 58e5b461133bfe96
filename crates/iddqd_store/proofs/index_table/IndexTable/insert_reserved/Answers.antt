use Rattle.std.proofs.Common.{arith, ℕ, ◌*◌, ◌/◌, ◌<◌, ◌∷◌, length, sym, subst}
use Rattle.std.specs.List.Sorted.{IsPermutation}
use Rattle.std.proofs.lemmas.List.Sorted.{length_permutation}
use Rattle.iddqd_store.specs.Table.{Table}
use Rattle.iddqd_store.specs.Slots.{contents}
use Rattle.iddqd_store.proofs.TableLemmas.Write.{table_put}
use Rattle.iddqd_store.proofs.SlotLemmas.Contents.{contents-put}
use Rattle.iddqd_store.proofs.TableLemmas.StretchBound.{stretch_le_pairs}
use Rattle.iddqd_store.proofs.index_table.IndexTable.insert_reserved.Goals as goal

pub overflow_add-self : goal.overflow_add-self
overflow_add-self c =
    let l = subst (λ (r : Table). length r.pairs < r.limit) (sym c.self.view_is) c.requires in
    omega (arith, l, c.self.invariant.1, c.first_empty-at.ensures.small)

pub invariant_of-self : goal.invariant_of-self
invariant_of-self c =
    let row = c.self.inside.cells in
    let f = c.first_empty-at.ensures.first_empty in
    let l : length (contents row) < length row / 8 * 7 = subst (λ (r : Table). length r.pairs < r.limit) (sym c.self.view_is) c.requires in
    let p = length_permutation _ _ (contents-put row c.first_empty-at.result (c.args.hash, c.args.slot) f.below f.empty) in
    rw c.write.ensures (table_put row c.first_empty-at.result c.args.hash c.args.slot c.self.invariant.0 l f, omega (arith, p, c.self.invariant.1))

pub returns-clause-added : goal.returns-clause-added
returns-clause-added c =
    let row = c.self.inside.cells in
    let f = c.first_empty-at.ensures.first_empty in
    let x : ℕ × ℕ = (c.args.hash, c.args.slot) in
    let p : IsPermutation (x ∷ contents row) (contents c.write.new.self) = rw c.write.ensures (contents-put row c.first_empty-at.result x f.below f.empty) in
    subst (λ (r : Table). IsPermutation (x ∷ r.pairs) (contents c.write.new.self)) c.self.view_is p

pub returns-clause-within : goal.returns-clause-within
returns-clause-within c = stretch_le_pairs c.args.self.now.pairs (length c.args.self.now.row) c.args.hash
