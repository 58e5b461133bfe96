use Rattle.std.proofs.Common.{arith, ℕ, ◌≢◌, ◌+◌, ◌%◌, ◌<◌, None, length}
use Rattle.std.proofs.lemmas.List.Sorted.{length_permutation}
use Rattle.iddqd_store.specs.Table.Ring.{cell, gap}
use Rattle.iddqd_store.proofs.TableLemmas.Renumber.{renumbered, table_renumbered}
use Rattle.iddqd_store.proofs.TableLemmas.Search.{walk_found, walk_to}
use Rattle.iddqd_store.proofs.TableLemmas.StretchBound.{stretch_le_pairs}
use Rattle.iddqd_store.proofs.index_table.IndexTable.renumber.Goals as goal

pub invariant_of-self : goal.invariant_of-self
invariant_of-self c =
    let row = c.self.inside.cells in
    let found = c.seek-at.ensures in
    let replaced = renumbered row c.seek-at.result c.args.hash c.args.from c.args.to found.way.below found.pair in
    let had = length_permutation _ _ replaced.had in
    let has = length_permutation _ _ replaced.has in
    rw c.write.ensures (table_renumbered row c.seek-at.result c.args.hash c.args.from c.args.to c.self.invariant.0 found.way.below found.pair, omega (arith, had, has, c.self.invariant.1))

pub returns-clause-replaced : goal.returns-clause-replaced
returns-clause-replaced c =
    let found = c.seek-at.ensures in
    rw (← c.self.view_is, c.write.ensures) (renumbered c.self.inside.cells c.seek-at.result c.args.hash c.args.from c.args.to found.way.below found.pair)

pub returns-clause-probes : goal.returns-clause-probes
returns-clause-probes c =
    let row = c.self.inside.cells in
    let home : ℕ = c.args.hash % length row in
    let found = c.seek-at.ensures in
    let some : cell row c.seek-at.result ≢ None = λ none. cc (none, found.pair) in
    let lh : home < length row = let below = found.way.below in omega arith in
    let most = walk_found row c.args.hash c.seek-at.result (gap (length row) home c.seek-at.result)
    (gap (length row) home c.seek-at.result + 1) c.self.invariant.0 (walk_to row home c.seek-at.result lh found.way) some (omega arith) in
    rw (← c.self.view_is) record {
      no_cells = λ none. absurd (omega (arith, found.way.below, none));
      miss = λ some. tt;
      hit_least = omega (arith, found.probes);
      hit_most = omega (arith, found.probes, most);
    }

pub returns-clause-within : goal.returns-clause-within
returns-clause-within c = stretch_le_pairs c.args.self.now.pairs (length c.args.self.now.row) c.args.hash
