use Rattle.iddqd_bi.specs.Keys.{has1}
use Rattle.std.specs.Fn.{FnOnceReturnsAt}
use Rattle.iddqd_store.proofs.MapLemmas.Mapped.{maps_absent, maps_found}
use Rattle.iddqd_store.proofs.MapLemmas.Updating.{any_absent, any_found, found_one}
use Rattle.iddqd_bi.proofs.map.BiHashMap.update1.Goals as goal

pub store_once-requires-clause-callable : goal.store_once-requires-clause-callable
store_once-requires-clause-callable g c = λ x here.
    (let test = has1 g.T.BiHashItem g.Q.Query.stands_for c.args.query in
    c.requires x (found_one test c.args.self.now.slots c.in-Some.slot x c.in-Some.ensures.found here))

pub returns-in-Some-clause-any_found : goal.returns-in-Some-clause-any_found
returns-in-Some-clause-any_found g c =
    let test = has1 g.T.BiHashItem g.Q.Query.stands_for c.args.query in
    any_found test c.args.self.now.slots c.in-Some.slot c.in-Some.ensures.found

pub returns-in-Some-clause-stores : goal.returns-in-Some-clause-stores
returns-in-Some-clause-stores g c = λ _.
    (let test = has1 g.T.BiHashItem g.Q.Query.stands_for c.args.query in
    let stored = c.store_once.ensures.stored in
    (stored.0, stored.1, found_one test c.args.self.now.slots c.in-Some.slot stored.0 c.in-Some.ensures.found stored.2, stored.3, stored.5))

pub returns-in-Some-clause-maps : goal.returns-in-Some-clause-maps
returns-in-Some-clause-maps g c =
    let test = has1 g.T.BiHashItem g.Q.Query.stands_for c.args.query in
    let stored = c.store_once.ensures.stored in
    rw stored.4 (maps_found (FnOnceReturnsAt g.F.FnOnce c.args.f) g.T.BiHashItemMut.put test c.args.self.now c.in-Some.slot c.in-Some.ensures.found stored.0 stored.1 stored.2 stored.3)

pub returns-in-None-clause-any_found : goal.returns-in-None-clause-any_found
returns-in-None-clause-any_found g c =
    let test = has1 g.T.BiHashItem g.Q.Query.stands_for c.args.query in
    any_absent test c.args.self.now.slots c.in-None.ensures.found

pub returns-in-None-clause-maps : goal.returns-in-None-clause-maps
returns-in-None-clause-maps g c =
    let test = has1 g.T.BiHashItem g.Q.Query.stands_for c.args.query in
    maps_absent (FnOnceReturnsAt g.F.FnOnce c.args.f) g.T.BiHashItemMut.put test c.args.self.now c.in-None.ensures.found
