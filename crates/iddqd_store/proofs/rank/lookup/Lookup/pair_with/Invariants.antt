use Rattle.std.proofs.Common.{◌≡◌, ◌++◌, List, map}
use Rattle.iddqd_store.specs.Differing.{SearchesEach}
use Rattle.iddqd_store.specs.Map.{bag}
use Rattle.iddqd_store.specs.Rank.{agree, key_hash}
use Rattle.iddqd_store.proofs.BagLemmas.Differing.{ArePaired}
use Rattle.iddqd_store.proofs.rank.lookup.Lookup.pair_with.Given as goal

-- the items so far were searched for, and are paired off
abbrev pub invariant-loop-before : goal.invariant-loop-before
invariant-loop-before g l =
    let hash = key_hash g.R.KeyOf.key g.R.Key.Hash.hash_input g.S.BuildHasher g.S.Hasher.Hasher l.other.builder in
    (done : List _) × (bag l.self ≡ done ++ l.before-iterator)
    × ArePaired (agree g.R.KeyOf.key g.R.Key.PartialEq.eq) done (bag l.other) (map (λ x. x.now) l.alone.items) l.pairs.items
    × SearchesEach hash (bag l.other) done l.initial.costs l.costs
