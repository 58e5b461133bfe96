-- Made by tests/widths from crates/iddqd_bi/proofs/map/BiHashMap/store_some_at/Answers.antt: change that file.
use Rattle.std.proofs.Common.{◌≡◌, Some, None, refl, sym, ap, slice_set, ◌∙◌, arith}
use Rattle.std.proofs.lemmas.Fn.{called_at}
use Rattle.std.proofs.lemmas.List.{set-get_or}
use Rattle.iddqd_store.specs.Map.{hash_of}
use Rattle.iddqd_store.proofs.RankLemmas.Exchanged.{IsIndexed-set}
use Rattle.iddqd_tri.proofs.MapLemmas.{AreLawful-ranks, agrees-keys}
use Rattle.iddqd_tri.proofs.map.TriHashMap.store_some_at.Goals as goal

pub invariant_of-self-2 : goal.invariant_of-self-2
invariant_of-self-2 g c =
    let laws1 = g.met.T.K1.Eq.laws in
    let laws2 = g.met.T.K2.Eq.laws in
    let laws3 = g.met.T.K3.Eq.laws in
    let hash = hash_of g.S.BuildHasher g.S.Hasher.Hasher c.self.inside.hash_builder in
    let x = c.item_mut-item.result.now in
    let d = c.in-Some.d in
    let same1 = g.met.T.TriHashItemMut.keeps_key1 x d in
    let same2 = g.met.T.TriHashItemMut.keeps_key2 x d in
    let same3 = g.met.T.TriHashItemMut.keeps_key3 x d in
    let agree = agrees-keys g.T.TriHashItem g.T.K1.PartialEq.eq g.T.K2.PartialEq.eq g.T.K3.PartialEq.eq x
    (g.T.TriHashItemMut.put x d) (laws1.symm _ _ ∙ same1) (laws2.symm _ _ ∙ same2) (laws3.symm _ _ ∙ same3) in
    rw c.write_data.ensures
    (IsIndexed-set (AreLawful-ranks g.T.TriHashItem laws1 laws2 laws3) (omega arith) c.self.invariant c.args.slot x _ c.item_mut-item.ensures.value agree
    (ap hash (g.met.T.K1.Hash.respects_eq _ _ same1), (ap hash (g.met.T.K2.Hash.respects_eq _ _ same2), (ap hash (g.met.T.K3.Hash.respects_eq _ _ same3), tt))))

pub returns-clause-stored : goal.returns-clause-stored
returns-clause-stored g c = λ yes. (
  c.item_mut-item.result.now,
  c.in-Some.d,
  rw (← c.self.view_is) c.item_mut-item.ensures.value,
  called_at g.F.FnMut c.f.ensures c.in-Some.is,
  rw (← c.self.view_is, c.item_mut-item.ensures.value, c.write_data.ensures) refl,
)

pub returns-in-None-clause-unchanged : goal.returns-in-None-clause-unchanged
returns-in-None-clause-unchanged g c = λ no.
    let slots = c.self.inside.items.slots in
    let x = c.item_mut-item.result.now in
    let same : slice_set slots c.args.slot (Some x) ≡ slots =
    ap (slice_set slots c.args.slot) (sym c.item_mut-item.ensures.value) ∙ set-get_or slots c.args.slot None in (
      x,
      rw (← c.self.view_is) c.item_mut-item.ensures.value,
      called_at g.F.FnMut c.f.ensures c.in-None.is,
      rw (← c.self.view_is, same) refl,
    )
