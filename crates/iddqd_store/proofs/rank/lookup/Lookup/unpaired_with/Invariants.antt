use Rattle.std.proofs.Common.{◌≡◌, ◌++◌, List, map}
use Rattle.iddqd_store.specs.Differing.{SearchesEach, unpaired}
use Rattle.iddqd_store.specs.Map.{bag}
use Rattle.iddqd_store.specs.Rank.{agree, key_hash}
use Rattle.iddqd_store.proofs.rank.lookup.Lookup.unpaired_with.Given as goal

-- the items so far were searched for
abbrev pub invariant-loop-item : goal.invariant-loop-item
invariant-loop-item g l =
    let hash = key_hash g.R.KeyOf.key g.R.Key.Hash.hash_input g.S.BuildHasher g.S.Hasher.Hasher l.other.builder in
    (done : List _) × (bag l.self ≡ done ++ l.item-iterator)
    × (map (λ x. x.now) l.alone.items ≡ unpaired (agree g.R.KeyOf.key g.R.Key.PartialEq.eq) done (bag l.other))
    × SearchesEach hash (bag l.other) done l.initial.costs l.costs
