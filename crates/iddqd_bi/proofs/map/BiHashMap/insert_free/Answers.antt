use Rattle.std.proofs.Common.{refl, sym, ap}
use Rattle.iddqd_store.specs.Map.{hash_of}
use Rattle.iddqd_store.proofs.BagLemmas.Differ.{first_mismatch-none}
use Rattle.iddqd_bi.specs.Keys.{key_tests}
use Rattle.iddqd_bi.proofs.MapLemmas.{conflicts_of-both}
use Rattle.iddqd_bi.proofs.map.BiHashMap.insert_free.Goals as goal

pub insert_into-requires-clause-free : goal.insert_into-requires-clause-free
insert_into-requires-clause-free g c =
    rw c.make_room.ensures.slots (conflicts_of-both g.T.BiHashItem g.T.K1.PartialEq.eq g.T.K2.PartialEq.eq g.Q1.Query.stands_for g.Q2.Query.stands_for
    g.met.Q1.Query.respects_eq g.met.Q2.Query.respects_eq c.args.item c.args.query1 c.args.query2
    (sym c.in_default.ensures.rank) _ c.requires.none_found)

pub insert_into-requires-clause-spots : goal.insert_into-requires-clause-spots
insert_into-requires-clause-spots g c =
    let same = first_mismatch-none (key_tests g.T.BiHashItem g.Q1.Query.stands_for g.Q2.Query.stands_for c.args.query1 c.args.query2) c.args.item
    (sym c.in_default.ensures.rank) in
    let hash = hash_of g.S.BuildHasher g.S.Hasher.Hasher c.args.self.now.builder in
    let hash1 = ap hash (g.met.Q1.Query.respects_hash _ _ same.0) in
    let hash2 = ap hash (g.met.Q2.Query.respects_hash _ _ same.1.0) in
    rw (c.make_room.ensures.slots, c.make_room.ensures.builder, ← hash1, ← hash2) c.requires.vacant

pub returns-in-Err-clause-hands_back : goal.returns-in-Err-clause-hands_back
returns-in-Err-clause-hands_back g c = record {
  handed_back = refl;
  rank = sym c.in_default.ensures.rank;
  memory = λ _. record {
    free = conflicts_of-both g.T.BiHashItem g.T.K1.PartialEq.eq g.T.K2.PartialEq.eq g.Q1.Query.stands_for g.Q2.Query.stands_for
        g.met.Q1.Query.respects_eq g.met.Q2.Query.respects_eq c.args.item c.args.query1 c.args.query2
        (sym c.in_default.ensures.rank) _ c.requires.none_found;
    full = c.in-Err.ensures.reason;
  };
}
