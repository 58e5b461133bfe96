-- Made by tests/widths from crates/iddqd_bi/proofs/map/BiHashMap/rekey_into/Answers.antt: change that file.
use Rattle.std.proofs.Common.{rules, refl, [], ◌∷◌}
use Rattle.iddqd_store.proofs.RankLemmas.Costs.{place_in}
use Rattle.iddqd_store.proofs.RankLemmas.Walks.{walks_all}
use Rattle.iddqd_store.proofs.RankLemmas.Displaced.{IsIndexed-displaced, PutsAt-displaced, paired_at}
use Rattle.iddqd_tri.proofs.MapLemmas.{AreLawful-ranks}
use Rattle.iddqd_tri.proofs.map.TriHashMap.rekey_into.Goals as goal

pub rehash_into-requires : goal.rehash_into-requires
rehash_into-requires g c = record {
  paired = paired_at c.args.slot c.replace-gone.result c.hashes_in-before1.result.0 c.self.invariant.indexes.0 (rw (← c.self.view_is) at c.hashes_in-before1.ensures.hash1) c.replace-gone.ensures.value;
  vacant = place_in c.self.invariant.indexes.0 (rw (← c.self.view_is) at c.requires.spots).0;
}

pub rehash_into-requires-2 : goal.rehash_into-requires-2
rehash_into-requires-2 g c = record {
  paired = paired_at c.args.slot c.replace-gone.result c.hashes_in-before1.result.1 c.self.invariant.indexes.1.0 (rw (← c.self.view_is) at c.hashes_in-before1.ensures.hash2) c.replace-gone.ensures.value;
  vacant = place_in c.self.invariant.indexes.1.0 (rw (← c.self.view_is) at c.requires.spots).1.0;
}

pub rehash_into-requires-3 : goal.rehash_into-requires-3
rehash_into-requires-3 g c = record {
  paired = paired_at c.args.slot c.replace-gone.result c.hashes_in-before1.result.2 c.self.invariant.indexes.1.1.0 (rw (← c.self.view_is) at c.hashes_in-before1.ensures.hash3) c.replace-gone.ensures.value;
  vacant = place_in c.self.invariant.indexes.1.1.0 (rw (← c.self.view_is) at c.requires.spots).1.1.0;
}

pub invariant_of-self : goal.invariant_of-self
invariant_of-self g c =
    let places = rw (← c.self.view_is) at c.requires.spots in
    let one = rw (← c.self.view_is) at c.hashes_in-before1.ensures.hash1 c.replace-gone.result c.replace-gone.ensures.value in
    let two = rw (← c.self.view_is) at c.hashes_in-before1.ensures.hash2 c.replace-gone.result c.replace-gone.ensures.value in
    let three = rw (← c.self.view_is) at c.hashes_in-before1.ensures.hash3 c.replace-gone.result c.replace-gone.ensures.value in
    let first = rw (← one) at c.rehash_into.ensures.moved in
    let second = rw (← two) at c.rehash_into-2.ensures.moved in
    let third = rw (← three) at c.rehash_into-3.ensures.moved in
    rw c.replace-gone.ensures.slots
    (IsIndexed-displaced c.self.inside.items.slots c.args.slot [] _ [] c.args.item (c.replace-gone.ensures.value, tt)
    (AreLawful-ranks g.T.TriHashItem g.met.T.K1.Eq.laws g.met.T.K2.Eq.laws g.met.T.K3.Eq.laws) c.self.invariant (rw (← c.self.view_is) at c.requires.free)
    ((_, first.others, places.0.same, first.had, first.has), ((_, second.others, places.1.0.same, second.had, second.has), ((_, third.others, places.1.1.0.same, third.had, third.has), tt))))

pub returns-clause-puts_at : goal.returns-clause-puts_at
returns-clause-puts_at g c =
    rw (← c.self.view_is)
    (PutsAt-displaced c.self.inside.items.slots c.args.slot [] _ [] c.args.item (c.replace-gone.ensures.value, tt)
    (AreLawful-ranks g.T.TriHashItem g.met.T.K1.Eq.laws g.met.T.K2.Eq.laws g.met.T.K3.Eq.laws) refl c.self.invariant.sound (rw (← c.self.view_is) at c.requires.free)
    (rw (← c.self.view_is) at c.note_that_items_fit.ensures.fits) c.replace-gone.ensures.slots (search rules) (search rules))

pub returns-clause-costs : goal.returns-clause-costs
returns-clause-costs g c =
    let one = c.hashes_in-before1.ensures.hash1 c.replace-gone.result (rw (← c.self.view_is) c.replace-gone.ensures.value) in
    let two = c.hashes_in-before1.ensures.hash2 c.replace-gone.result (rw (← c.self.view_is) c.replace-gone.ensures.value) in
    let three = c.hashes_in-before1.ensures.hash3 c.replace-gone.result (rw (← c.self.view_is) c.replace-gone.ensures.value) in
    rw (one, two, three, ← c.self.view_is) (walks_all (_ ∷ _ ∷ _ ∷ []) _ _ c.self.invariant
    (c.rehash_into.new.meter, c.rehash_into.ensures.costs, (c.rehash_into-2.new.meter, c.rehash_into-2.ensures.costs, (c.rehash_into-3.new.meter, c.rehash_into-3.ensures.costs, refl))))
