use Rattle.std.proofs.Common.{rules, refl, sym, ◌∙◌, [], ◌∷◌}
use Rattle.iddqd_store.proofs.RankLemmas.Walks.{walks_all}
use Rattle.iddqd_store.proofs.RankLemmas.Displaced.{IsIndexed-displaced, PutsAt-displaced, paired_at, same_hash, was_there}
use Rattle.iddqd_bi.proofs.MapLemmas.{AreLawful-ranks}
use Rattle.iddqd_bi.proofs.map.BiHashMap.overwrite_two.Goals as goal

pub merge_two-requires : goal.merge_two-requires
merge_two-requires g c =
    let gone = was_there c.self.inside.items.slots (c.args.other_slot ∷ []) c.args.slot c.replace-gone.result (rw c.in-Some.ensures.taken.slots at c.replace-gone.ensures.value) in
    let other = sym c.remove.ensures.value ∙ c.in-Some.is in
    let left = rw (← c.self.view_is) at c.hashes_found-other1.ensures.hash1 in
    record {
      apart = c.requires.apart;
      gone = paired_at c.args.slot c.replace-gone.result c.hashes_found-gone1.result.0 c.self.invariant.indexes.0 (rw (← c.self.view_is) at c.hashes_found-gone1.ensures.hash1) gone;
      other = paired_at c.args.other_slot c.in-Some.other c.hashes_found-other1.result.0 c.self.invariant.indexes.0 left other;
      known = same_hash _ _ c.args.found.now.0 c.args.other_slot c.in-Some.other c.hashes_found-other1.result.0 (rw (← c.self.view_is) at c.requires.hashed).0 left other;
    }

pub merge_two-requires-2 : goal.merge_two-requires-2
merge_two-requires-2 g c =
    let gone = was_there c.self.inside.items.slots (c.args.other_slot ∷ []) c.args.slot c.replace-gone.result (rw c.in-Some.ensures.taken.slots at c.replace-gone.ensures.value) in
    let other = sym c.remove.ensures.value ∙ c.in-Some.is in
    let left = rw (← c.self.view_is) at c.hashes_found-other1.ensures.hash2 in
    record {
      apart = c.requires.apart;
      gone = paired_at c.args.slot c.replace-gone.result c.hashes_found-gone1.result.1 c.self.invariant.indexes.1.0 (rw (← c.self.view_is) at c.hashes_found-gone1.ensures.hash2) gone;
      other = paired_at c.args.other_slot c.in-Some.other c.hashes_found-other1.result.1 c.self.invariant.indexes.1.0 left other;
      known = same_hash _ _ c.args.found.now.1 c.args.other_slot c.in-Some.other c.hashes_found-other1.result.1 (rw (← c.self.view_is) at c.requires.hashed).1.0 left other;
    }

pub invariant_of-self : goal.invariant_of-self
invariant_of-self g c =
    let hashes = rw (← c.self.view_is) at c.requires.hashes in
    let one = rw c.in-Some.ensures.taken.slots at c.replace-gone.ensures.value in
    let gone = was_there c.self.inside.items.slots (c.args.other_slot ∷ []) c.args.slot c.replace-gone.result one in
    let other = sym c.remove.ensures.value ∙ c.in-Some.is in
    let gone1 = rw (← c.self.view_is) at c.hashes_found-gone1.ensures.hash1 c.replace-gone.result gone in
    let gone2 = rw (← c.self.view_is) at c.hashes_found-gone1.ensures.hash2 c.replace-gone.result gone in
    let other1 = rw (← c.self.view_is) at c.hashes_found-other1.ensures.hash1 c.in-Some.other other in
    let other2 = rw (← c.self.view_is) at c.hashes_found-other1.ensures.hash2 c.in-Some.other other in
    let first = rw (← gone1, ← other1) at c.merge_two.ensures.replaced in
    let second = rw (← gone2, ← other2) at c.merge_two-2.ensures.replaced in
    rw (c.replace-gone.ensures.slots, c.in-Some.ensures.taken.slots)
    (IsIndexed-displaced c.self.inside.items.slots c.args.slot (c.args.other_slot ∷ []) _ (c.in-Some.other ∷ []) c.args.item (one, (other, tt))
    (AreLawful-ranks g.T.BiHashItem g.met.T.K1.Eq.laws g.met.T.K2.Eq.laws) c.self.invariant (rw (← c.self.view_is) at c.requires.free)
    ((_, first.others, hashes.0, first.had, first.has), ((_, second.others, hashes.1.0, second.had, second.has), tt)))

pub returns-clause-puts_at : goal.returns-clause-puts_at
returns-clause-puts_at g c =
    let one = rw c.in-Some.ensures.taken.slots at c.replace-gone.ensures.value in
    rw (← c.self.view_is)
    (PutsAt-displaced c.self.inside.items.slots c.args.slot (c.args.other_slot ∷ []) _ (c.in-Some.other ∷ []) c.args.item (one, (sym c.remove.ensures.value ∙ c.in-Some.is, tt))
    (AreLawful-ranks g.T.BiHashItem g.met.T.K1.Eq.laws g.met.T.K2.Eq.laws) refl c.self.invariant.sound (rw (← c.self.view_is) at c.requires.free)
    (rw (← c.self.view_is) at c.note_that_items_fit.ensures.fits) (rw (c.replace-gone.ensures.slots, c.in-Some.ensures.taken.slots) refl) (search rules) (search rules))

pub returns-clause-costs : goal.returns-clause-costs
returns-clause-costs g c =
    let gone = was_there c.self.inside.items.slots (c.args.other_slot ∷ []) c.args.slot c.replace-gone.result (rw c.in-Some.ensures.taken.slots at c.replace-gone.ensures.value) in
    let gone1 = c.hashes_found-gone1.ensures.hash1 c.replace-gone.result (rw (← c.self.view_is) gone) in
    let gone2 = c.hashes_found-gone1.ensures.hash2 c.replace-gone.result (rw (← c.self.view_is) gone) in
    rw (gone1, gone2, ← c.self.view_is) (walks_all (_ ∷ _ ∷ []) _ _ c.self.invariant
    (c.merge_two.new.meter, c.merge_two.ensures.costs, (c.merge_two-2.new.meter, c.merge_two-2.ensures.costs, refl)))
