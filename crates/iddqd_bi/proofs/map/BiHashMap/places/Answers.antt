use Rattle.iddqd_store.proofs.MapLemmas.Places.{conflict_on, free_on}
use Rattle.iddqd_bi.specs.Keys.{ranks}
use Rattle.iddqd_bi.proofs.MapLemmas.{AreLawful-ranks}
use Rattle.iddqd_bi.proofs.map.BiHashMap.places.Goals as goal

pub returns-clause-free : goal.returns-clause-free
returns-clause-free g c =
    free_on (AreLawful-ranks g.T.BiHashItem g.met.T.K1.Eq.laws g.met.T.K2.Eq.laws).0 c.args.self.now c.search_all.ensures.apart
    (ranks g.T.BiHashItem g.T.K1.PartialEq.eq g.T.K2.PartialEq.eq) c.args.item.now _
    (rw (c.key1.ensures, c.key2.ensures) at c.search_all.ensures.found) c.search_all.result c.search_all.ensures.none_found

pub returns-clause-conflict : goal.returns-clause-conflict
returns-clause-conflict g c =
    conflict_on (AreLawful-ranks g.T.BiHashItem g.met.T.K1.Eq.laws g.met.T.K2.Eq.laws).0 c.args.self.now c.search_all.ensures.apart
    (ranks g.T.BiHashItem g.T.K1.PartialEq.eq g.T.K2.PartialEq.eq) c.args.item.now _
    (rw (c.key1.ensures, c.key2.ensures) at c.search_all.ensures.found) c.search_all.result c.search_all.ensures.some

pub returns-clause-found : goal.returns-clause-found
returns-clause-found g c = rw (c.key1.ensures, c.key2.ensures) at c.search_all.ensures.found

pub returns-clause-costs : goal.returns-clause-costs
returns-clause-costs g c = rw (c.key1.ensures, c.key2.ensures) at c.search_all.ensures.costs
