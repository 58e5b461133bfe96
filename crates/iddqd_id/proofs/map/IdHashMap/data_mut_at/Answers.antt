-- Made by tests/widths from crates/iddqd_bi/proofs/map/BiHashMap/data_mut_at/Answers.antt: change that file.
use Rattle.std.proofs.Common.{refl, sym, ap, ◌∙◌, ◌≡◌, Some, arith}
use Rattle.iddqd_store.specs.Map.{Map, hash_of}
use Rattle.iddqd_store.specs.Slots.{get}
use Rattle.iddqd_store.proofs.RankLemmas.Exchanged.{IsIndexed-set, set_swaps}
use Rattle.iddqd_id.proofs.MapLemmas.{AreLawful-ranks, agrees-keys}
use Rattle.iddqd_id.proofs.map.IdHashMap.data_mut_at.Goals as goal

Some-injective : {X : Type 0} {x y : X} → Some x ≡ Some y → x ≡ y
Some-injective e = cc

pub invariant_of-self-lent : goal.invariant_of-self-lent
invariant_of-self-lent g c = λ w.
    let laws = g.met.T.Key.Eq.laws in
    let hash = hash_of g.S.BuildHasher g.S.Hasher.Hasher c.self.inside.hash_builder in
    let x = c.item_mut.result.now in
    let same = g.met.T.IdHashItemMut.keeps_key x w in
    let agree = agrees-keys g.T.IdHashItem g.T.Key.PartialEq.eq x
    (g.T.IdHashItemMut.put x w) (laws.symm _ _ ∙ same) in
    IsIndexed-set (AreLawful-ranks g.T.IdHashItem laws) (omega arith) c.self.invariant c.args.slot x _ c.item_mut.ensures.value agree
    (ap hash (g.met.T.Key.Hash.respects_eq _ _ same), tt)

pub returns : goal.returns
returns g c = (
  (refl, λ w. rw (← c.self.view_is, c.item_mut.ensures.value) refl),
  record {
    writes_back = tt;
    sound = rw (← c.self.view_is) c.self.invariant.sound;
    value = λ x found.
        let at = ap (λ (m : Map g.row.T.Denot g.row.S.Denot). get m.slots c.args.slot) c.self.view_is ∙ found in
        c.data_mut.ensures.value ∙ ap g.T.IdHashItemMut.data_of (Some-injective (sym c.item_mut.ensures.value ∙ at));
    swaps = λ x d found.
        let at = ap (λ (m : Map g.row.T.Denot g.row.S.Denot). get m.slots c.args.slot) c.self.view_is ∙ found in
        rw (← c.self.view_is, at) (set_swaps (AreLawful-ranks g.T.IdHashItem g.met.T.Key.Eq.laws) (omega arith) c.self.invariant c.args.slot x _ at);
  },
)
