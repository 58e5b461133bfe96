use Rattle.std.proofs.Common.{arith, suc, ◌≡◌, ◌+◌, length}
use Rattle.std.proofs.lemmas.List.Sorted.{Contains-permutation, IsPermutation-map, length_permutation}
use Rattle.iddqd_store.specs.Table.Ring.{stretch}
use Rattle.iddqd_store.specs.Table.{hashes}
use Rattle.iddqd_store.proofs.TableLemmas.Moved.{put_and_taken}
use Rattle.iddqd_store.proofs.TableLemmas.Stretch.{stretch_permutation}
use Rattle.iddqd_store.proofs.index_table.IndexTable.rehash_pair_into.Goals as goal

pub remove-requires : goal.remove-requires
remove-requires c =
    Contains-permutation _ _ _ c.insert_into.ensures.added (let there = c.requires.there in (suc there.0, omega (arith, there.1), there.2))

pub returns-clause-moved : goal.returns-clause-moved
returns-clause-moved c = put_and_taken c.requires.there c.insert_into.ensures.added c.remove.ensures.removed

pub returns-clause-costs : goal.returns-clause-costs
returns-clause-costs c =
    let still = c.insert_into.ensures.no_probe (omega (arith, c.cells.ensures, c.cells-2.ensures.value, c.if-cells.false)) in
    let long = length_permutation _ _ c.insert_into.ensures.added in
    omega (arith, still, long, c.remove.ensures.probes, c.remove.ensures.within)

pub returns-clause-one_walk : goal.returns-clause-one_walk
returns-clause-one_walk c = λ same room.
    let still = c.insert_into.ensures.no_probe same in
    let n = length c.args.self.now.row in
    let more = stretch_permutation _ _ n c.args.before (IsPermutation-map (λ p. p.0) _ _ c.insert_into.ensures.added) in
    let walk : c.remove.new.meter ≡ c.insert_into.new.meter + stretch (hashes c.insert_into.new.self.pairs) n c.args.before + 1 = rw c.insert_into.ensures.cells at c.remove.ensures.probes in
    omega (arith, still, more, walk)
