-- Made by tests/widths from crates/iddqd_bi/proofs/map/BiHashMap/hashes_found/Answers.antt: change that file.
use Rattle.iddqd_store.proofs.RankLemmas.Displaced.{known_at}
use Rattle.iddqd_id.proofs.map.IdHashMap.hashes_found.Goals as goal

pub hashes_in-requires-clause-hash : goal.hashes_in-requires-clause-hash
hashes_in-requires-clause-hash g c = known_at _ _ c.args.found.now c.args.slot c.hash_at.result c.requires.hashed.0 c.hash_at.ensures.hashed
