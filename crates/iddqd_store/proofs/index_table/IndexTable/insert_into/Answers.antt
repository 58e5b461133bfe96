use Rattle.std.proofs.Common.{arith, ℕ, ◌≡◌, ◌*◌, ◌/◌, ◌%◌, ◌<◌, ◌∷◌, length, sym, subst}
use Rattle.std.specs.List.Sorted.{IsPermutation}
use Rattle.std.proofs.lemmas.List.Sorted.{length_permutation}
use Rattle.iddqd_store.specs.Table.{IsFirstEmpty, IsFree, Table, hashes}
use Rattle.iddqd_store.specs.Slots.{contents}
use Rattle.iddqd_store.proofs.TableLemmas.Spot.{free_first}
use Rattle.iddqd_store.proofs.TableLemmas.StretchBound.{stretch_le_pairs}
use Rattle.iddqd_store.proofs.TableLemmas.Write.{table_put}
use Rattle.iddqd_store.proofs.SlotLemmas.Contents.{contents-put}
use Rattle.iddqd_store.proofs.index_table.IndexTable.insert_into.Goals as goal

pub invariant_of-self : goal.invariant_of-self
invariant_of-self c =
    let row = c.self.inside.cells in
    let spot = c.args.spot in
    let l : length (contents row) < length row / 8 * 7 = subst (λ (r : Table). length r.pairs < r.limit) (sym c.self.view_is) c.requires.room in
    let free : IsFree (hashes (contents row)) spot = subst (λ (r : Table). IsFree (hashes r.pairs) spot) (sym c.self.view_is) c.requires.vacant in
    let same : spot.cells ≡ length row = omega (arith, c.cells.ensures, c.len.ensures, c.if-cells-len.false) in
    let f : IsFirstEmpty row (spot.hash % length row) spot.at = free_first row spot c.self.invariant.0 free same (omega arith) in
    let p = length_permutation _ _ (contents-put row spot.at (spot.hash, c.args.slot) f.below f.empty) in
    rw (c.write.ensures, c.at.ensures, c.hash-2.ensures) (table_put row spot.at spot.hash c.args.slot c.self.invariant.0 l f, omega (arith, p, c.self.invariant.1))

pub returns-clause-added : goal.returns-clause-added
returns-clause-added c =
    let row = c.self.inside.cells in
    let spot = c.args.spot in
    let l : length (contents row) < length row / 8 * 7 = subst (λ (r : Table). length r.pairs < r.limit) (sym c.self.view_is) c.requires.room in
    let free : IsFree (hashes (contents row)) spot = subst (λ (r : Table). IsFree (hashes r.pairs) spot) (sym c.self.view_is) c.requires.vacant in
    let same : spot.cells ≡ length row = omega (arith, c.cells.ensures, c.len.ensures, c.if-cells-len.false) in
    let f : IsFirstEmpty row (spot.hash % length row) spot.at = free_first row spot c.self.invariant.0 free same (omega arith) in
    let x : ℕ × ℕ = (spot.hash, c.args.slot) in
    let p : IsPermutation (x ∷ contents row) (contents c.write.new.self) = rw (c.write.ensures, c.at.ensures, c.hash-2.ensures) (contents-put row spot.at x f.below f.empty) in
    subst (λ (r : Table). IsPermutation (x ∷ r.pairs) (contents c.write.new.self)) c.self.view_is p

pub returns-clause-within : goal.returns-clause-within
returns-clause-within c = stretch_le_pairs c.args.self.now.pairs (length c.args.self.now.row) c.args.spot.hash
