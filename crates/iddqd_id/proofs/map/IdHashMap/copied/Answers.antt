-- Made by tests/widths from crates/iddqd_bi/proofs/map/BiHashMap/copied/Answers.antt: change that file.
use Rattle.std.proofs.Common.{refl, sym, ◌∙◌, ap}
use Rattle.iddqd_store.specs.Map.{hash_of}
use Rattle.iddqd_store.proofs.RankLemmas.Copied.{is_copy}
use Rattle.iddqd_store.proofs.RankLemmas.Invariant.{IsIndexed-copy}
use Rattle.iddqd_id.proofs.MapLemmas.{AreLawful-ranks}
use Rattle.iddqd_id.proofs.map.IdHashMap.copied.Goals as goal

pub invariant_of-copy : goal.invariant_of-copy
invariant_of-copy g c =
    let hash = hash_of g.S.BuildHasher g.S.Hasher.Hasher c.self.inside.hash_builder in
    let same = rw (← c.self.view_is) at c.requires.same_key in
    let hashes = rw (← c.self.view_is) at c.requires.same_hashes in
    rw c.in_ok-first.ensures
    (IsIndexed-copy g.T.Clone.is_clone _ _ (AreLawful-ranks g.T.IdHashItem g.met.T.Key.Eq.laws) c.self.invariant
    (λ x k found is. rw (same x k found is) refl) (
      (λ x k found is. hashes c.in_ok-hash_builder.hash_builder (g.T.Key.Hash.hash_input (g.T.IdHashItem.key k)) c.in_ok-hash_builder.ensures.cases
          ∙ ap hash (sym (g.met.T.Key.Hash.respects_eq _ _ (same x k found is)))),
      tt,
    )
    c.in_ok-clone.ensures.slots c.in_ok-clone.ensures.items)

pub returns-clause-items : goal.returns-clause-items
returns-clause-items g c = rw (← c.self.view_is) (is_copy g.T.Clone.is_clone _ _ c.in_ok-clone.ensures.items)
