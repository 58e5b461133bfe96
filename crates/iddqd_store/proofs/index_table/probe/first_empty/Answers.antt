use Rattle.std.proofs.Common.{arith, ℕ, ◌≡◌, ◌%◌, length, ap, subst}
use Rattle.iddqd_store.specs.Slots.{contents}
use Rattle.iddqd_store.specs.Table.Ring.{gap, stretch}
use Rattle.iddqd_store.specs.Table.{hashes, IsFirstEmpty}
use Rattle.iddqd_store.proofs.TableLemmas.Search.{walk_to, walk_end}
use Rattle.iddqd_store.proofs.index_table.probe.first_empty.Goals as goal

pub returns-clause-probes : goal.returns-clause-probes
returns-clause-probes c =
    let row = c.args.cells.now in
    let home : ℕ = c.args.hash % length row in
    let at = c.first_empty_from.result in
    let e : c.home_of.result ≡ home = rw c.len.ensures at c.home_of.ensures in
    let f : IsFirstEmpty row home at = subst (λ (h : ℕ). IsFirstEmpty row h at) e c.first_empty_from.ensures.first_empty in
    let s : stretch (hashes (contents row)) (length row) c.args.hash ≡ gap (length row) home at =
    walk_end row c.args.hash at (gap (length row) home at) c.requires.table (walk_to row home at (omega arith) (record { below = f.below; first = f.first })) f.empty in
    let g : gap (length row) c.home_of.result at ≡ gap (length row) home at = ap (λ (h : ℕ). gap (length row) h at) e in
    omega (arith, s, g, c.first_empty_from.ensures.probes)
