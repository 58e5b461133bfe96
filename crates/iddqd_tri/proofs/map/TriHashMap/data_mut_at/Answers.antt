-- Made by tests/widths from crates/iddqd_bi/proofs/map/BiHashMap/data_mut_at/Answers.antt: change that file.
use Rattle.std.proofs.Common.{refl, sym, ap, ◌∙◌, ◌≡◌, Some, arith}
use Rattle.iddqd_store.specs.Map.{Map, hash_of}
use Rattle.iddqd_store.specs.Slots.{get}
use Rattle.iddqd_store.proofs.RankLemmas.Exchanged.{IsIndexed-set, set_swaps}
use Rattle.iddqd_tri.proofs.MapLemmas.{AreLawful-ranks, agrees-keys}
use Rattle.iddqd_tri.proofs.map.TriHashMap.data_mut_at.Goals as goal

Some-injective : {X : Type 0} {x y : X} → Some x ≡ Some y → x ≡ y
Some-injective e = cc

pub invariant_of-self-lent : goal.invariant_of-self-lent
invariant_of-self-lent g c = λ w.
    let laws1 = g.met.T.K1.Eq.laws in
    let laws2 = g.met.T.K2.Eq.laws in
    let laws3 = g.met.T.K3.Eq.laws in
    let hash = hash_of g.S.BuildHasher g.S.Hasher.Hasher c.self.inside.hash_builder in
    let x = c.item_mut.result.now in
    let same1 = g.met.T.TriHashItemMut.keeps_key1 x w in
    let same2 = g.met.T.TriHashItemMut.keeps_key2 x w in
    let same3 = g.met.T.TriHashItemMut.keeps_key3 x w in
    let agree = agrees-keys g.T.TriHashItem g.T.K1.PartialEq.eq g.T.K2.PartialEq.eq g.T.K3.PartialEq.eq x
    (g.T.TriHashItemMut.put x w) (laws1.symm _ _ ∙ same1) (laws2.symm _ _ ∙ same2) (laws3.symm _ _ ∙ same3) in
    IsIndexed-set (AreLawful-ranks g.T.TriHashItem laws1 laws2 laws3) (omega arith) c.self.invariant c.args.slot x _ c.item_mut.ensures.value agree
    (ap hash (g.met.T.K1.Hash.respects_eq _ _ same1), (ap hash (g.met.T.K2.Hash.respects_eq _ _ same2), (ap hash (g.met.T.K3.Hash.respects_eq _ _ same3), tt)))

pub returns : goal.returns
returns g c = (
  (refl, λ w. rw (← c.self.view_is, c.item_mut.ensures.value) refl),
  record {
    writes_back = tt;
    sound = rw (← c.self.view_is) c.self.invariant.sound;
    value = λ x found.
        let at = ap (λ (m : Map g.row.T.Denot g.row.S.Denot). get m.slots c.args.slot) c.self.view_is ∙ found in
        c.data_mut.ensures.value ∙ ap g.T.TriHashItemMut.data_of (Some-injective (sym c.item_mut.ensures.value ∙ at));
    swaps = λ x d found.
        let at = ap (λ (m : Map g.row.T.Denot g.row.S.Denot). get m.slots c.args.slot) c.self.view_is ∙ found in
        rw (← c.self.view_is, at) (set_swaps (AreLawful-ranks g.T.TriHashItem g.met.T.K1.Eq.laws g.met.T.K2.Eq.laws g.met.T.K3.Eq.laws) (omega arith) c.self.invariant c.args.slot x _ at);
  },
)
