use Rattle.std.proofs.Common.{◌∷◌, []}
use Rattle.iddqd_store.proofs.MapLemmas.Places.{stand_as, two_popped}
use Rattle.iddqd_store.proofs.RankLemmas.Displaced.{PutsAt-stand, gives_way}
use Rattle.iddqd_store.proofs.RankLemmas.Walks.{ones_most, twos_most}
use Rattle.iddqd_bi.specs.Keys.{ranks}
use Rattle.iddqd_bi.proofs.MapLemmas.{key_hashes}
use Rattle.iddqd_bi.proofs.map.BiHashMap.overwrite.Goals as goal

pub overwrite_one-requires-clause-free : goal.overwrite_one-requires-clause-free
overwrite_one-requires-clause-free g c =
    let found = rw (c.in_default-pop_front.ensures.rest, c.in_default-pop_front.ensures.end) at c.in-Some.ensures.rest in
    let stand = stand_as c.requires.conflicts (rw (c.slot.ensures, c.slot-2.ensures) at c.each_once-slots.ensures) found in
    gives_way (ranks g.T.BiHashItem g.T.K1.PartialEq.eq g.T.K2.PartialEq.eq) c.args.self.now c.args.item _ stand

pub returns-in_default-pop_front : goal.returns-in_default-pop_front
returns-in_default-pop_front g c =
    let found = rw (c.in_default-pop_front.ensures.rest, c.in_default-pop_front.ensures.end) at c.in-Some.ensures.rest in
    let stand = stand_as c.requires.conflicts (rw (c.slot.ensures, c.slot-2.ensures) at c.each_once-slots.ensures) found in
    let hashes = key_hashes g.T.BiHashItem g.T.K1.Hash g.T.K2.Hash g.S.BuildHasher g.S.Hasher.Hasher c.args.self.now.builder in
    rw (rw c.new-displaced.ensures at c.push.ensures) record {
      displaced = rw (c.overwrite_one.ensures.value) at stand.items;
      puts_at = PutsAt-stand (ranks g.T.BiHashItem g.T.K1.PartialEq.eq g.T.K2.PartialEq.eq) c.args.self.now c.args.item _ stand c.overwrite_one.ensures.puts_at;
      costs = ones_most _ hashes (c.args.found.now.0 ∷ c.args.found.now.1 ∷ []) _ _ _ c.overwrite_one.ensures.costs;
    }

pub overwrite_two-gone-requires-clause-free : goal.overwrite_two-gone-requires-clause-free
overwrite_two-gone-requires-clause-free g c =
    let found = two_popped c.in-Some.ensures.fewer c.in-Some.ensures.rest c.in-Some-pop_front.ensures.rest in
    let stand = stand_as c.requires.conflicts (rw (c.slot.ensures, c.slot-2.ensures) at c.each_once-slots.ensures) found in
    gives_way (ranks g.T.BiHashItem g.T.K1.PartialEq.eq g.T.K2.PartialEq.eq) c.args.self.now c.args.item _ stand

pub returns : goal.returns
returns g c =
    let found = two_popped c.in-Some.ensures.fewer c.in-Some.ensures.rest c.in-Some-pop_front.ensures.rest in
    let stand = stand_as c.requires.conflicts (rw (c.slot.ensures, c.slot-2.ensures) at c.each_once-slots.ensures) found in
    let hashes = key_hashes g.T.BiHashItem g.T.K1.Hash g.T.K2.Hash g.S.BuildHasher g.S.Hasher.Hasher c.args.self.now.builder in
    rw (rw (c.push-2.ensures, c.new-displaced-2.ensures) at c.push-3.ensures) record {
      displaced = rw (c.overwrite_two-gone.ensures.values.0, c.overwrite_two-gone.ensures.values.1) at stand.items;
      puts_at = PutsAt-stand (ranks g.T.BiHashItem g.T.K1.PartialEq.eq g.T.K2.PartialEq.eq) c.args.self.now c.args.item _ stand c.overwrite_two-gone.ensures.puts_at;
      costs = twos_most _ _ hashes (c.args.found.now.0 ∷ c.args.found.now.1 ∷ []) _ _ _ c.overwrite_two-gone.ensures.costs;
    }
