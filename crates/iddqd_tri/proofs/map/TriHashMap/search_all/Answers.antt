-- Written by hand; tests/three_keys.patch says why.
use Rattle.std.proofs.Common.{arith, ap, refl}
use Rattle.std.proofs.lemmas.Grind.{common_steps}
use Rattle.iddqd_store.specs.Map.{Map}
use Rattle.iddqd_store.specs.Rank.{key_hash}
use Rattle.iddqd_store.proofs.RankLemmas.Lookups.{search_in}
use Rattle.iddqd_tri.proofs.map.TriHashMap.search_all.Goals as goal

pub returns-in-Vacant-Vacant-Vacant : goal.returns-in-Vacant-Vacant-Vacant
returns-in-Vacant-Vacant-Vacant g c =
    let builder = ap (λ (m : Map g.row.T.Denot g.row.S.Denot). m.builder) c.self.view_is in
    let hash1 = key_hash g.T.TriHashItem.key1 g.T.K1.Hash.hash_input g.S.BuildHasher g.S.Hasher.Hasher in
    let hash2 = key_hash g.T.TriHashItem.key2 g.T.K2.Hash.hash_input g.S.BuildHasher g.S.Hasher.Hasher in
    let hash3 = key_hash g.T.TriHashItem.key3 g.T.K3.Hash.hash_input g.S.BuildHasher g.S.Hasher.Hasher in
    let first = rw c.in-Vacant-Vacant-Vacant.is-0 at (search_in hash1 refl refl c.by_key1.ensures.slots c.by_key1.ensures.builder c.by_key1.ensures.room
    (rw builder at c.hash_one-hash1.ensures) c.search-found1.ensures) in
    let second = rw c.in-Vacant-Vacant-Vacant.is-1 at (search_in hash2 refl refl c.by_key2.ensures.slots c.by_key2.ensures.builder c.by_key2.ensures.room
    (rw builder at c.hash_one-hash2.ensures) c.search-found2.ensures) in
    let third = rw c.in-Vacant-Vacant-Vacant.is-2 at (search_in hash3 refl refl c.by_key3.ensures.slots c.by_key3.ensures.builder c.by_key3.ensures.room
    (rw builder at c.hash_one-hash3.ensures) c.search-found3.ensures) in
    record {
      found = (first.found, (second.found, (third.found, tt)));
      none_found = refl;
      some = tt;
      apart = c.by_key1.ensures.apart;
      vacant = (first.vacant, (second.vacant, (third.vacant, tt)));
      cells = (first.cells, (second.cells, (third.cells, tt)));
      hashes = tt;
      hashed = tt;
      costs = (_, first.costs, (_, second.costs, (_, third.costs, refl)));
    }

pub returns-in_default : goal.returns-in_default
returns-in_default g c =
    let builder = ap (λ (m : Map g.row.T.Denot g.row.S.Denot). m.builder) c.self.view_is in
    let hash1 = key_hash g.T.TriHashItem.key1 g.T.K1.Hash.hash_input g.S.BuildHasher g.S.Hasher.Hasher in
    let hash2 = key_hash g.T.TriHashItem.key2 g.T.K2.Hash.hash_input g.S.BuildHasher g.S.Hasher.Hasher in
    let hash3 = key_hash g.T.TriHashItem.key3 g.T.K3.Hash.hash_input g.S.BuildHasher g.S.Hasher.Hasher in
    let first = search_in hash1 c.new.ensures (grind (arith, common_steps)) c.by_key1.ensures.slots c.by_key1.ensures.builder c.by_key1.ensures.room
    (rw builder at c.hash_one-hash1.ensures) c.search-found1.ensures in
    let second = search_in hash2 c.new-in_default.ensures (grind (arith, common_steps)) c.by_key2.ensures.slots c.by_key2.ensures.builder c.by_key2.ensures.room
    (rw builder at c.hash_one-hash2.ensures) c.search-found2.ensures in
    let third = search_in hash3 c.new-in_default-2.ensures c.found-in_default-2.ensures c.by_key3.ensures.slots c.by_key3.ensures.builder c.by_key3.ensures.room
    (rw builder at c.hash_one-hash3.ensures) c.search-found3.ensures in
    record {
      found = (first.found, (second.found, (third.found, tt)));
      none_found = tt;
      some = grind (arith, common_steps);
      apart = c.by_key1.ensures.apart;
      vacant = tt;
      cells = tt;
      hashes = (first.same, (second.same, (third.same, tt)));
      hashed = (first.hashed, (second.hashed, (third.hashed, tt)));
      costs = (_, first.costs, (_, second.costs, (_, third.costs, refl)));
    }
