-- Made by tests/widths from crates/iddqd_bi/proofs/map/BiHashMap/overwrite_one/Answers.antt: change that file.
use Rattle.std.proofs.Common.{rules, refl, [], ◌∷◌}
use Rattle.iddqd_store.proofs.RankLemmas.Walks.{walks_all}
use Rattle.iddqd_store.proofs.RankLemmas.Displaced.{IsIndexed-displaced, PutsAt-displaced, paired_at}
use Rattle.iddqd_id.proofs.MapLemmas.{AreLawful-ranks}
use Rattle.iddqd_id.proofs.map.IdHashMap.overwrite_one.Goals as goal

pub rehash-requires : goal.rehash-requires
rehash-requires g c =
    paired_at c.args.slot c.replace-gone.result c.hashes_found-before.result c.self.invariant.indexes.0 (rw (← c.self.view_is) at c.hashes_found-before.ensures.hash) c.replace-gone.ensures.value

pub invariant_of-self : goal.invariant_of-self
invariant_of-self g c =
    let hashes = rw (← c.self.view_is) at c.requires.hashes in
    let one = rw (← c.self.view_is) at c.hashes_found-before.ensures.hash c.replace-gone.result c.replace-gone.ensures.value in
    let first = rw (← one, c.hash.ensures) at c.rehash.ensures.moved in
    rw c.replace-gone.ensures.slots
    (IsIndexed-displaced c.self.inside.items.slots c.args.slot [] _ [] c.args.item (c.replace-gone.ensures.value, tt)
    (AreLawful-ranks g.T.IdHashItem g.met.T.Key.Eq.laws) c.self.invariant (rw (← c.self.view_is) at c.requires.free)
    ((_, first.others, hashes.0, first.had, first.has), tt))

pub returns-clause-puts_at : goal.returns-clause-puts_at
returns-clause-puts_at g c =
    rw (← c.self.view_is)
    (PutsAt-displaced c.self.inside.items.slots c.args.slot [] _ [] c.args.item (c.replace-gone.ensures.value, tt)
    (AreLawful-ranks g.T.IdHashItem g.met.T.Key.Eq.laws) refl c.self.invariant.sound (rw (← c.self.view_is) at c.requires.free)
    (rw (← c.self.view_is) at c.note_that_items_fit.ensures.fits) c.replace-gone.ensures.slots (search rules) (search rules))

pub returns-clause-costs : goal.returns-clause-costs
returns-clause-costs g c =
    let one = c.hashes_found-before.ensures.hash c.replace-gone.result (rw (← c.self.view_is) c.replace-gone.ensures.value) in
    rw (one, ← c.hash.ensures, ← c.self.view_is) (walks_all (_ ∷ []) _ _ c.self.invariant
    (c.rehash.new.meter, c.rehash.ensures.costs, refl))
