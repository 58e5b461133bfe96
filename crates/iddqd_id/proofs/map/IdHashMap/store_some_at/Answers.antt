-- Made by tests/widths from crates/iddqd_bi/proofs/map/BiHashMap/store_some_at/Answers.antt: change that file.
use Rattle.std.proofs.Common.{◌≡◌, Some, None, refl, sym, ap, slice_set, ◌∙◌, arith}
use Rattle.std.proofs.lemmas.Fn.{called_at}
use Rattle.std.proofs.lemmas.List.{set-get_or}
use Rattle.iddqd_store.specs.Map.{hash_of}
use Rattle.iddqd_store.proofs.RankLemmas.Exchanged.{IsIndexed-set}
use Rattle.iddqd_id.proofs.MapLemmas.{AreLawful-ranks, agrees-keys}
use Rattle.iddqd_id.proofs.map.IdHashMap.store_some_at.Goals as goal

pub invariant_of-self-2 : goal.invariant_of-self-2
invariant_of-self-2 g c =
    let laws = g.met.T.Key.Eq.laws in
    let hash = hash_of g.S.BuildHasher g.S.Hasher.Hasher c.self.inside.hash_builder in
    let x = c.item_mut-item.result.now in
    let d = c.in-Some.d in
    let same = g.met.T.IdHashItemMut.keeps_key x d in
    let agree = agrees-keys g.T.IdHashItem g.T.Key.PartialEq.eq x
    (g.T.IdHashItemMut.put x d) (laws.symm _ _ ∙ same) in
    rw c.write_data.ensures
    (IsIndexed-set (AreLawful-ranks g.T.IdHashItem laws) (omega arith) c.self.invariant c.args.slot x _ c.item_mut-item.ensures.value agree
    (ap hash (g.met.T.Key.Hash.respects_eq _ _ same), tt))

pub returns-clause-stored : goal.returns-clause-stored
returns-clause-stored g c = λ yes. (
  c.item_mut-item.result.now,
  c.in-Some.d,
  rw (← c.self.view_is) c.item_mut-item.ensures.value,
  called_at g.F.FnMut c.f.ensures c.in-Some.is,
  rw (← c.self.view_is, c.item_mut-item.ensures.value, c.write_data.ensures) refl,
)

pub returns-in-None-clause-unchanged : goal.returns-in-None-clause-unchanged
returns-in-None-clause-unchanged g c = λ no.
    let slots = c.self.inside.items.slots in
    let x = c.item_mut-item.result.now in
    let same : slice_set slots c.args.slot (Some x) ≡ slots =
    ap (slice_set slots c.args.slot) (sym c.item_mut-item.ensures.value) ∙ set-get_or slots c.args.slot None in (
      x,
      rw (← c.self.view_is) c.item_mut-item.ensures.value,
      called_at g.F.FnMut c.f.ensures c.in-None.is,
      rw (← c.self.view_is, same) refl,
    )
