-- Made by tests/widths from crates/iddqd_bi/proofs/map/BiHashMap/remove_slot/Answers.antt: change that file.
use Rattle.std.proofs.Common.{arith, sym, refl, ◌∙◌, [], ◌∷◌}
use Rattle.iddqd_store.proofs.RankLemmas.Displaced.{paired_at}
use Rattle.iddqd_store.proofs.RankLemmas.Invariant.{IsIndexed-remove}
use Rattle.iddqd_store.proofs.RankLemmas.Walks.{once, walks_all}
use Rattle.iddqd_store.proofs.SlotLemmas.Contents.{contents-moves}
use Rattle.iddqd_tri.proofs.MapLemmas.{AreLawful-ranks}
use Rattle.iddqd_tri.proofs.map.TriHashMap.remove_slot.Goals as goal

pub remove-requires-in-Some : goal.remove-requires-in-Some
remove-requires-in-Some g c =
    paired_at c.args.slot c.in-Some.item c.hashes_in-hash1.result.0 c.self.invariant.indexes.0 (rw (← c.self.view_is) at c.hashes_in-hash1.ensures.hash1) (sym c.remove.ensures.value ∙ c.in-Some.is)

pub remove-requires-in-Some-2 : goal.remove-requires-in-Some-2
remove-requires-in-Some-2 g c =
    paired_at c.args.slot c.in-Some.item c.hashes_in-hash1.result.1 c.self.invariant.indexes.1.0 (rw (← c.self.view_is) at c.hashes_in-hash1.ensures.hash2) (sym c.remove.ensures.value ∙ c.in-Some.is)

pub remove-requires-in-Some-3 : goal.remove-requires-in-Some-3
remove-requires-in-Some-3 g c =
    paired_at c.args.slot c.in-Some.item c.hashes_in-hash1.result.2 c.self.invariant.indexes.1.1.0 (rw (← c.self.view_is) at c.hashes_in-hash1.ensures.hash3) (sym c.remove.ensures.value ∙ c.in-Some.is)

pub invariant_of-self : goal.invariant_of-self
invariant_of-self g c =
    let found = sym c.remove.ensures.value ∙ c.in-Some.is in
    let one = rw (← c.self.view_is) at c.hashes_in-hash1.ensures.hash1 c.in-Some.item found in
    let two = rw (← c.self.view_is) at c.hashes_in-hash1.ensures.hash2 c.in-Some.item found in
    let three = rw (← c.self.view_is) at c.hashes_in-hash1.ensures.hash3 c.in-Some.item found in
    IsIndexed-remove c.in-Some.item (AreLawful-ranks g.T.TriHashItem g.met.T.K1.Eq.laws g.met.T.K2.Eq.laws g.met.T.K3.Eq.laws) c.self.invariant c.in-Some.ensures.taken.members
    (rw (← one) at c.remove-in-Some.ensures.removed, (rw (← two) at c.remove-in-Some-2.ensures.removed, (rw (← three) at c.remove-in-Some-3.ensures.removed, tt)))

pub returns-clause-loses : goal.returns-clause-loses
returns-clause-loses g c = record {
  items = rw (← c.self.view_is) (contents-moves c.self.inside.items.slots c.remove.new.self.slots _ _ c.in-Some.ensures.taken.members);
  same_room = rw (← c.self.view_is, c.remove.ensures.capacity, c.remove-in-Some.ensures.limit, c.remove-in-Some-2.ensures.limit, c.remove-in-Some-3.ensures.limit) refl;
  same_builder = rw (← c.self.view_is) refl;
}

pub returns-clause-costs : goal.returns-clause-costs
returns-clause-costs g c =
    rw (← c.self.view_is) (walks_all (_ ∷ _ ∷ _ ∷ []) _ _ c.self.invariant (
      c.remove-in-Some.new.meter,
      once _ _ _ (omega (arith, c.remove-in-Some.ensures.probes, c.remove-in-Some.ensures.within)),
      (
        c.remove-in-Some-2.new.meter,
        once _ _ _ (omega (arith, c.remove-in-Some-2.ensures.probes, c.remove-in-Some-2.ensures.within)),
        (c.remove-in-Some-3.new.meter, once _ _ _ (omega (arith, c.remove-in-Some-3.ensures.probes, c.remove-in-Some-3.ensures.within)), refl),
      ),
    ))
