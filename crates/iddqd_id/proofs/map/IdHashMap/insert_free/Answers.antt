-- Written by hand; tests/one_key.patch says why.
use Rattle.std.proofs.Common.{rules, refl, ◌≡◌, true, ap}
use Rattle.iddqd_store.specs.Map.{hash_of}
use Rattle.iddqd_id.proofs.MapLemmas.{conflicts_of-key}
use Rattle.iddqd_id.proofs.map.IdHashMap.insert_free.Goals as goal

pub insert_into-requires-clause-free : goal.insert_into-requires-clause-free
insert_into-requires-clause-free g c =
    let has : g.Q.Query.stands_for c.args.query (g.T.IdHashItem.key c.args.item) ≡ true = search rules in
    rw c.make_room.ensures.slots (conflicts_of-key g.T.IdHashItem g.T.Key.PartialEq.eq g.Q.Query.stands_for g.met.Q.Query.respects_eq c.args.item c.args.query (rw has refl) _ c.requires.none_found)

pub insert_into-requires-clause-spots : goal.insert_into-requires-clause-spots
insert_into-requires-clause-spots g c =
    let has : g.Q.Query.stands_for c.args.query (g.T.IdHashItem.key c.args.item) ≡ true = search rules in
    let hash = hash_of g.S.BuildHasher g.S.Hasher.Hasher c.args.self.now.builder in
    let hash = ap hash (g.met.Q.Query.respects_hash _ _ has) in
    rw (c.make_room.ensures.slots, c.make_room.ensures.builder, ← hash) c.requires.vacant

pub returns-in-Err-clause-hands_back : goal.returns-in-Err-clause-hands_back
returns-in-Err-clause-hands_back g c =
    let has : g.Q.Query.stands_for c.args.query (g.T.IdHashItem.key c.args.item) ≡ true = search rules in
    record {
      handed_back = refl;
      rank = rw has refl;
      memory = λ _. record {
        free = conflicts_of-key g.T.IdHashItem g.T.Key.PartialEq.eq g.Q.Query.stands_for g.met.Q.Query.respects_eq c.args.item c.args.query (rw has refl) _ c.requires.none_found;
        full = c.in-Err.ensures.reason;
      };
    }
