use Rattle.iddqd_store.proofs.RankLemmas.Displaced.{known_at}
use Rattle.iddqd_bi.proofs.map.BiHashMap.hashes_found.Goals as goal

pub hashes_in-requires-clause-hash1 : goal.hashes_in-requires-clause-hash1
hashes_in-requires-clause-hash1 g c = known_at _ _ c.args.found.now.0 c.args.slot c.hash_at.result c.requires.hashed.0 c.hash_at.ensures.hashed

pub hashes_in-requires-clause-hash2 : goal.hashes_in-requires-clause-hash2
hashes_in-requires-clause-hash2 g c = known_at _ _ c.args.found.now.1 c.args.slot c.hash_at-2.result c.requires.hashed.1.0 c.hash_at-2.ensures.hashed
