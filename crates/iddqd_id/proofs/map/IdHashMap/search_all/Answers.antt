-- Written by hand; tests/one_key.patch says why.
use Rattle.std.proofs.Common.{ap, refl}
use Rattle.iddqd_store.specs.Map.{Map}
use Rattle.iddqd_store.proofs.RankLemmas.Costs.{SearchCosts-room}
use Rattle.iddqd_id.proofs.map.IdHashMap.search_all.Goals as goal

pub returns-in-Found-clause-found : goal.returns-in-Found-clause-found
returns-in-Found-clause-found g c =
    let first = rw (c.by_key.ensures.slots, c.in-Found.is) at c.search.ensures.found in
    rw c.new.ensures (first, tt)

pub returns-in-Found-clause-costs : goal.returns-in-Found-clause-costs
returns-in-Found-clause-costs g c =
    let builder = ap (λ (m : Map g.row.T.Denot g.row.S.Denot). m.builder) c.self.view_is in
    let first = rw (c.by_key.ensures.slots, c.by_key.ensures.builder, c.hash_one-hash.ensures, builder, c.in-Found.is) at
    (SearchCosts-room c.args.self.now.capacity c.by_key.ensures.room c.search.ensures.costs) in
    rw c.new.ensures (_, first, refl)

pub returns-in-Vacant-clause-costs : goal.returns-in-Vacant-clause-costs
returns-in-Vacant-clause-costs g c =
    let builder = ap (λ (m : Map g.row.T.Denot g.row.S.Denot). m.builder) c.self.view_is in
    let first = rw (c.by_key.ensures.slots, c.by_key.ensures.builder, c.hash_one-hash.ensures, builder, c.in-Vacant.is) at
    (SearchCosts-room c.args.self.now.capacity c.by_key.ensures.room c.search.ensures.costs) in
    (_, first, refl)
