use Rattle.std.proofs.Common.{refl, sym, ap, ◌∙◌, ◌≡◌, Some, arith}
use Rattle.iddqd_store.specs.Map.{Map, hash_of}
use Rattle.iddqd_store.specs.Slots.{get}
use Rattle.iddqd_store.proofs.RankLemmas.Exchanged.{IsIndexed-set, set_swaps}
use Rattle.iddqd_bi.proofs.MapLemmas.{AreLawful-ranks, agrees-keys}
use Rattle.iddqd_bi.proofs.map.BiHashMap.data_mut_at.Goals as goal

Some-injective : {X : Type 0} {x y : X} → Some x ≡ Some y → x ≡ y
Some-injective e = cc

pub invariant_of-self-lent : goal.invariant_of-self-lent
invariant_of-self-lent g c = λ w.
    let laws1 = g.met.T.K1.Eq.laws in
    let laws2 = g.met.T.K2.Eq.laws in
    let hash = hash_of g.S.BuildHasher g.S.Hasher.Hasher c.self.inside.hash_builder in
    let x = c.item_mut.result.now in
    let same1 = g.met.T.BiHashItemMut.keeps_key1 x w in
    let same2 = g.met.T.BiHashItemMut.keeps_key2 x w in
    let agree = agrees-keys g.T.BiHashItem g.T.K1.PartialEq.eq g.T.K2.PartialEq.eq x
    (g.T.BiHashItemMut.put x w) (laws1.symm _ _ ∙ same1) (laws2.symm _ _ ∙ same2) in
    IsIndexed-set (AreLawful-ranks g.T.BiHashItem laws1 laws2) (omega arith) c.self.invariant c.args.slot x _ c.item_mut.ensures.value agree
    (ap hash (g.met.T.K1.Hash.respects_eq _ _ same1), (ap hash (g.met.T.K2.Hash.respects_eq _ _ same2), tt))

pub returns : goal.returns
returns g c = (
  (refl, λ w. rw (← c.self.view_is, c.item_mut.ensures.value) refl),
  record {
    writes_back = tt;
    sound = rw (← c.self.view_is) c.self.invariant.sound;
    value = λ x found.
        let at = ap (λ (m : Map g.row.T.Denot g.row.S.Denot). get m.slots c.args.slot) c.self.view_is ∙ found in
        c.data_mut.ensures.value ∙ ap g.T.BiHashItemMut.data_of (Some-injective (sym c.item_mut.ensures.value ∙ at));
    swaps = λ x d found.
        let at = ap (λ (m : Map g.row.T.Denot g.row.S.Denot). get m.slots c.args.slot) c.self.view_is ∙ found in
        rw (← c.self.view_is, at) (set_swaps (AreLawful-ranks g.T.BiHashItem g.met.T.K1.Eq.laws g.met.T.K2.Eq.laws) (omega arith) c.self.invariant c.args.slot x _ at);
  },
)
