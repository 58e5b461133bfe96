-- Made by tests/widths from crates/iddqd_bi/proofs/map/BiHashMap/store_at/Answers.antt: change that file.
use Rattle.std.proofs.Common.{refl, ap, ◌∙◌, arith}
use Rattle.std.proofs.lemmas.Fn.{called_at}
use Rattle.iddqd_store.specs.Map.{hash_of}
use Rattle.iddqd_store.proofs.RankLemmas.Exchanged.{IsIndexed-set, set_swaps}
use Rattle.iddqd_id.proofs.MapLemmas.{AreLawful-ranks, agrees-keys}
use Rattle.iddqd_id.proofs.map.IdHashMap.store_at.Goals as goal

pub invariant_of-self : goal.invariant_of-self
invariant_of-self g c =
    let laws = g.met.T.Key.Eq.laws in
    let hash = hash_of g.S.BuildHasher g.S.Hasher.Hasher c.self.inside.hash_builder in
    let x = c.item_mut-item.result.now in
    let d = c.f-d.result in
    let same = g.met.T.IdHashItemMut.keeps_key x d in
    let agree = agrees-keys g.T.IdHashItem g.T.Key.PartialEq.eq x
    (g.T.IdHashItemMut.put x d) (laws.symm _ _ ∙ same) in
    rw c.write_data.ensures
    (IsIndexed-set (AreLawful-ranks g.T.IdHashItem laws) (omega arith) c.self.invariant c.args.slot x _ c.item_mut-item.ensures.value agree
    (ap hash (g.met.T.Key.Hash.respects_eq _ _ same), tt))

pub returns : goal.returns
returns g c = record {
  stored = (
    c.item_mut-item.result.now,
    c.f-d.result,
    rw (← c.self.view_is) c.item_mut-item.ensures.value,
    called_at g.F.FnMut c.f-d.ensures refl,
    rw (← c.self.view_is, c.item_mut-item.ensures.value, c.write_data.ensures) refl,
    rw (← c.self.view_is, c.write_data.ensures)
        (set_swaps (AreLawful-ranks g.T.IdHashItem g.met.T.Key.Eq.laws) (omega arith) c.self.invariant c.args.slot _ _ c.item_mut-item.ensures.value),
  );
}
