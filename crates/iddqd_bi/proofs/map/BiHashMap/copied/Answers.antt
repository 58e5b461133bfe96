use Rattle.std.proofs.Common.{refl, sym, ◌∙◌, ap}
use Rattle.iddqd_store.specs.Map.{hash_of}
use Rattle.iddqd_store.proofs.RankLemmas.Copied.{is_copy}
use Rattle.iddqd_store.proofs.RankLemmas.Invariant.{IsIndexed-copy}
use Rattle.iddqd_bi.proofs.MapLemmas.{AreLawful-ranks}
use Rattle.iddqd_bi.proofs.map.BiHashMap.copied.Goals as goal

pub invariant_of-copy : goal.invariant_of-copy
invariant_of-copy g c =
    let hash = hash_of g.S.BuildHasher g.S.Hasher.Hasher c.self.inside.hash_builder in
    let same1 = rw (← c.self.view_is) at c.requires.same_key1 in
    let same2 = rw (← c.self.view_is) at c.requires.same_key2 in
    let hashes = rw (← c.self.view_is) at c.requires.same_hashes in
    rw (c.in_ok-first.ensures, c.in_ok-second.ensures)
    (IsIndexed-copy g.T.Clone.is_clone _ _ (AreLawful-ranks g.T.BiHashItem g.met.T.K1.Eq.laws g.met.T.K2.Eq.laws) c.self.invariant
    (λ x k found is. rw (same1 x k found is, same2 x k found is) refl) (
      (λ x k found is. hashes c.in_ok-hash_builder.hash_builder (g.T.K1.Hash.hash_input (g.T.BiHashItem.key1 k)) c.in_ok-hash_builder.ensures.cases
          ∙ ap hash (sym (g.met.T.K1.Hash.respects_eq _ _ (same1 x k found is)))),
      (
        (λ x k found is. hashes c.in_ok-hash_builder.hash_builder (g.T.K2.Hash.hash_input (g.T.BiHashItem.key2 k)) c.in_ok-hash_builder.ensures.cases
            ∙ ap hash (sym (g.met.T.K2.Hash.respects_eq _ _ (same2 x k found is)))),
        tt,
      ),
    )
    c.in_ok-clone.ensures.slots c.in_ok-clone.ensures.items)

pub returns-clause-items : goal.returns-clause-items
returns-clause-items g c = rw (← c.self.view_is) (is_copy g.T.Clone.is_clone _ _ c.in_ok-clone.ensures.items)
