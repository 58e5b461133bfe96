use Rattle.std.proofs.Common.{arith, ◌<◌, length, None, sym, subst, refl}
use Rattle.std.specs.Prelude.{◌≢◌, ◌↔◌, IsSome}
use Rattle.iddqd_store.specs.Table.{Table, hashes}
use Rattle.iddqd_store.specs.Slots.{contents}
use Rattle.iddqd_store.specs.Table.Ring.{cell, IsFull}
use Rattle.iddqd_store.proofs.TableLemmas.Full.{occupied_exactly_full}
use Rattle.iddqd_store.proofs.TableLemmas.Search.{room}
use Rattle.iddqd_store.proofs.TableLemmas.Limits.{some_not_none}
use Rattle.iddqd_store.proofs.index_table.IndexTable.cell_at.Goals as goal

pub returns-clause-occupied : goal.returns-clause-occupied
returns-clause-occupied c =
    let row = c.self.inside.cells in
    let l : c.args.i < length row = subst (λ (r : Table). c.args.i < length r.row) (sym c.self.view_is) c.requires in
    let e = room row c.self.invariant.0 (omega arith) in
    let f : (cell row c.args.i ≢ None) ↔ IsFull (hashes (contents row)) (length row) c.args.i =
    occupied_exactly_full (λ p. p.0) (length row) row refl (omega arith) c.self.invariant.0.reached e.0 e.1 e.2 c.args.i l in
    let s = some_not_none (cell row c.args.i) in
    let all : IsSome (cell row c.args.i) ↔ IsFull (hashes (contents row)) (length row) c.args.i = (λ x. f.0 (s.0 x), λ x. s.1 (f.1 x)) in
    rw c.cell_at.ensures.value (subst (λ (r : Table). IsSome (cell row c.args.i) ↔ IsFull (hashes r.pairs) (length r.row) c.args.i) c.self.view_is all)
