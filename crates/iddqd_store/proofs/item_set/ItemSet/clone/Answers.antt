use Rattle.iddqd_store.proofs.SlotLemmas.Clone.{slots_are_clones, items_are_clones, IsChained-clone}
use Rattle.iddqd_store.proofs.SlotLemmas.FreeBefore.{IsFreeBefore-start}
use Rattle.iddqd_store.proofs.item_set.ItemSet.clone.Goals as goal

pub invariant_of-result : goal.invariant_of-result
invariant_of-result g c = (IsChained-clone g.T.Clone.is_clone _ _ _ _ c.in_ok-clone.ensures.cases.0 c.self.invariant.0, IsFreeBefore-start _)

pub returns-clause-slots : goal.returns-clause-slots
returns-clause-slots g c = rw (← c.self.view_is) (slots_are_clones g.T.Clone.is_clone _ _ c.in_ok-clone.ensures.cases.0)

pub returns-clause-items : goal.returns-clause-items
returns-clause-items g c = rw (← c.self.view_is) (items_are_clones g.T.Clone.is_clone _ _ c.in_ok-clone.ensures.cases.0)
