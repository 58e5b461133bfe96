use Rattle.std.proofs.Common.{rules, refl, [], ◌∷◌}
use Rattle.iddqd_store.proofs.RankLemmas.Walks.{walks_all}
use Rattle.iddqd_store.proofs.RankLemmas.Displaced.{IsIndexed-displaced, PutsAt-displaced, paired_at}
use Rattle.iddqd_bi.proofs.MapLemmas.{AreLawful-ranks}
use Rattle.iddqd_bi.proofs.map.BiHashMap.overwrite_one.Goals as goal

pub rehash-requires : goal.rehash-requires
rehash-requires g c =
    paired_at c.args.slot c.replace-gone.result c.hashes_found-before1.result.0 c.self.invariant.indexes.0 (rw (← c.self.view_is) at c.hashes_found-before1.ensures.hash1) c.replace-gone.ensures.value

pub rehash-requires-2 : goal.rehash-requires-2
rehash-requires-2 g c =
    paired_at c.args.slot c.replace-gone.result c.hashes_found-before1.result.1 c.self.invariant.indexes.1.0 (rw (← c.self.view_is) at c.hashes_found-before1.ensures.hash2) c.replace-gone.ensures.value

pub invariant_of-self : goal.invariant_of-self
invariant_of-self g c =
    let hashes = rw (← c.self.view_is) at c.requires.hashes in
    let one = rw (← c.self.view_is) at c.hashes_found-before1.ensures.hash1 c.replace-gone.result c.replace-gone.ensures.value in
    let two = rw (← c.self.view_is) at c.hashes_found-before1.ensures.hash2 c.replace-gone.result c.replace-gone.ensures.value in
    let first = rw (← one, c.hash.ensures) at c.rehash.ensures.moved in
    let second = rw (← two, c.hash-2.ensures) at c.rehash-2.ensures.moved in
    rw c.replace-gone.ensures.slots
    (IsIndexed-displaced c.self.inside.items.slots c.args.slot [] _ [] c.args.item (c.replace-gone.ensures.value, tt)
    (AreLawful-ranks g.T.BiHashItem g.met.T.K1.Eq.laws g.met.T.K2.Eq.laws) c.self.invariant (rw (← c.self.view_is) at c.requires.free)
    ((_, first.others, hashes.0, first.had, first.has), ((_, second.others, hashes.1.0, second.had, second.has), tt)))

pub returns-clause-puts_at : goal.returns-clause-puts_at
returns-clause-puts_at g c =
    rw (← c.self.view_is)
    (PutsAt-displaced c.self.inside.items.slots c.args.slot [] _ [] c.args.item (c.replace-gone.ensures.value, tt)
    (AreLawful-ranks g.T.BiHashItem g.met.T.K1.Eq.laws g.met.T.K2.Eq.laws) refl c.self.invariant.sound (rw (← c.self.view_is) at c.requires.free)
    (rw (← c.self.view_is) at c.note_that_items_fit.ensures.fits) c.replace-gone.ensures.slots (search rules) (search rules))

pub returns-clause-costs : goal.returns-clause-costs
returns-clause-costs g c =
    let one = c.hashes_found-before1.ensures.hash1 c.replace-gone.result (rw (← c.self.view_is) c.replace-gone.ensures.value) in
    let two = c.hashes_found-before1.ensures.hash2 c.replace-gone.result (rw (← c.self.view_is) c.replace-gone.ensures.value) in
    rw (one, two, ← c.hash.ensures, ← c.hash-2.ensures, ← c.self.view_is) (walks_all (_ ∷ _ ∷ []) _ _ c.self.invariant
    (c.rehash.new.meter, c.rehash.ensures.costs, (c.rehash-2.new.meter, c.rehash-2.ensures.costs, refl)))
