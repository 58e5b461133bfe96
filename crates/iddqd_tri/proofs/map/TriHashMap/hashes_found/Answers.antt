-- Made by tests/widths from crates/iddqd_bi/proofs/map/BiHashMap/hashes_found/Answers.antt: change that file.
use Rattle.iddqd_store.proofs.RankLemmas.Displaced.{known_at}
use Rattle.iddqd_tri.proofs.map.TriHashMap.hashes_found.Goals as goal

pub hashes_in-requires-clause-hash1 : goal.hashes_in-requires-clause-hash1
hashes_in-requires-clause-hash1 g c = known_at _ _ c.args.found.now.0 c.args.slot c.hash_at.result c.requires.hashed.0 c.hash_at.ensures.hashed

pub hashes_in-requires-clause-hash2 : goal.hashes_in-requires-clause-hash2
hashes_in-requires-clause-hash2 g c = known_at _ _ c.args.found.now.1 c.args.slot c.hash_at-2.result c.requires.hashed.1.0 c.hash_at-2.ensures.hashed

pub hashes_in-requires-clause-hash3 : goal.hashes_in-requires-clause-hash3
hashes_in-requires-clause-hash3 g c = known_at _ _ c.args.found.now.2 c.args.slot c.hash_at-3.result c.requires.hashed.1.1.0 c.hash_at-3.ensures.hashed
