-- Made by tests/widths from crates/iddqd_bi/proofs/map/BiHashMap/remove_slot/Answers.antt: change that file.
use Rattle.std.proofs.Common.{arith, sym, refl, ◌∙◌, [], ◌∷◌}
use Rattle.iddqd_store.proofs.RankLemmas.Displaced.{paired_at}
use Rattle.iddqd_store.proofs.RankLemmas.Invariant.{IsIndexed-remove}
use Rattle.iddqd_store.proofs.RankLemmas.Walks.{once, walks_all}
use Rattle.iddqd_store.proofs.SlotLemmas.Contents.{contents-moves}
use Rattle.iddqd_id.proofs.MapLemmas.{AreLawful-ranks}
use Rattle.iddqd_id.proofs.map.IdHashMap.remove_slot.Goals as goal

pub remove-requires-in-Some : goal.remove-requires-in-Some
remove-requires-in-Some g c =
    paired_at c.args.slot c.in-Some.item c.hashes_in-hash.result c.self.invariant.indexes.0 (rw (← c.self.view_is) at c.hashes_in-hash.ensures.hash) (sym c.remove.ensures.value ∙ c.in-Some.is)

pub invariant_of-self : goal.invariant_of-self
invariant_of-self g c =
    let found = sym c.remove.ensures.value ∙ c.in-Some.is in
    let one = rw (← c.self.view_is) at c.hashes_in-hash.ensures.hash c.in-Some.item found in
    IsIndexed-remove c.in-Some.item (AreLawful-ranks g.T.IdHashItem g.met.T.Key.Eq.laws) c.self.invariant c.in-Some.ensures.taken.members
    (rw (← one) at c.remove-in-Some.ensures.removed, tt)

pub returns-clause-loses : goal.returns-clause-loses
returns-clause-loses g c = record {
  items = rw (← c.self.view_is) (contents-moves c.self.inside.items.slots c.remove.new.self.slots _ _ c.in-Some.ensures.taken.members);
  same_room = rw (← c.self.view_is, c.remove.ensures.capacity, c.remove-in-Some.ensures.limit) refl;
  same_builder = rw (← c.self.view_is) refl;
}

pub returns-clause-costs : goal.returns-clause-costs
returns-clause-costs g c =
    rw (← c.self.view_is) (walks_all (_ ∷ []) _ _ c.self.invariant (
      c.remove-in-Some.new.meter,
      once _ _ _ (omega (arith, c.remove-in-Some.ensures.probes, c.remove-in-Some.ensures.within)),
      refl,
    ))
