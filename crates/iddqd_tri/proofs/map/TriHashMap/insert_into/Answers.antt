-- Made by tests/widths from crates/iddqd_bi/proofs/map/BiHashMap/insert_into/Answers.antt: change that file.
use Rattle.std.proofs.Common.{arith, rules, refl, [], ◌∷◌}
use Rattle.iddqd_store.proofs.RankLemmas.Costs.{place_in}
use Rattle.iddqd_store.proofs.RankLemmas.Index.{length-index}
use Rattle.iddqd_store.proofs.RankLemmas.Invariant.{IsIndexed-insert}
use Rattle.iddqd_store.proofs.RankLemmas.Walks.{insert_most, once, walks_all}
use Rattle.iddqd_store.proofs.SlotLemmas.Contents.{length-contents}
use Rattle.iddqd_store.proofs.RankLemmas.Displaced.{PutsAt-inserted}
use Rattle.iddqd_tri.proofs.MapLemmas.{AreLawful-ranks}
use Rattle.iddqd_tri.proofs.map.TriHashMap.insert_into.Goals as goal

pub insert_reserved-slot-requires : goal.insert_reserved-slot-requires
insert_reserved-slot-requires g c =
    let room = rw (← c.self.view_is) at c.requires.room in
    omega (arith, length-contents c.self.inside.items.slots)

pub insert_into-requires : goal.insert_into-requires
insert_into-requires g c = record {
  room = omega (arith, length-index c.self.invariant.indexes.0, rw (← c.self.view_is) at c.requires.room);
  vacant = place_in c.self.invariant.indexes.0 (rw (← c.self.view_is) at c.requires.spots).0;
}

pub insert_into-requires-2 : goal.insert_into-requires-2
insert_into-requires-2 g c = record {
  room = omega (arith, length-index c.self.invariant.indexes.1.0, rw (← c.self.view_is) at c.requires.room);
  vacant = place_in c.self.invariant.indexes.1.0 (rw (← c.self.view_is) at c.requires.spots).1.0;
}

pub insert_into-requires-3 : goal.insert_into-requires-3
insert_into-requires-3 g c = record {
  room = omega (arith, length-index c.self.invariant.indexes.1.1.0, rw (← c.self.view_is) at c.requires.room);
  vacant = place_in c.self.invariant.indexes.1.1.0 (rw (← c.self.view_is) at c.requires.spots).1.1.0;
}

pub invariant_of-self : goal.invariant_of-self
invariant_of-self g c =
    let places = rw (← c.self.view_is) at c.requires.spots in
    IsIndexed-insert c.args.item (AreLawful-ranks g.T.TriHashItem g.met.T.K1.Eq.laws g.met.T.K2.Eq.laws g.met.T.K3.Eq.laws) c.self.invariant
    (rw (← c.self.view_is) at c.requires.free) c.insert_reserved-slot.ensures.members
    ((_, places.0.same, c.insert_into.ensures.added), ((_, places.1.0.same, c.insert_into-2.ensures.added), ((_, places.1.1.0.same, c.insert_into-3.ensures.added), tt)))

pub returns-clause-puts_at : goal.returns-clause-puts_at
returns-clause-puts_at g c =
    let put = c.insert_reserved-slot.ensures in
    rw (← c.self.view_is)
    (PutsAt-inserted c.insert_reserved-slot.result c.args.item (AreLawful-ranks g.T.TriHashItem g.met.T.K1.Eq.laws g.met.T.K2.Eq.laws g.met.T.K3.Eq.laws)
    c.self.invariant.sound (rw (← c.self.view_is) at c.requires.free) put.members put.updates.changed (rw (← c.self.view_is) at c.requires.room) (search rules) (search rules))

pub returns-clause-costs : goal.returns-clause-costs
returns-clause-costs g c =
    let into1 = c.insert_into.ensures in
    let into2 = c.insert_into-2.ensures in
    let into3 = c.insert_into-3.ensures in
    let walk1 = once _ _ _ (insert_most _ _ _ _ _ _ into1.no_probe into1.probes into1.within) in
    let walk2 = once _ _ _ (insert_most _ _ _ _ _ _ into2.no_probe into2.probes into2.within) in
    let walk3 = once _ _ _ (insert_most _ _ _ _ _ _ into3.no_probe into3.probes into3.within) in
    rw (← c.self.view_is) (walks_all (_ ∷ _ ∷ _ ∷ []) _ _ c.self.invariant (c.insert_into.new.meter, walk1, (c.insert_into-2.new.meter, walk2, (c.insert_into-3.new.meter, walk3, refl))))
