use Rattle.iddqd_order.proofs.FilterLemmas.{remove-first}
use Rattle.iddqd_sorted.proofs.map.Sorted.pop_first.Goals as goal

pub returns-clause-parts : goal.returns-clause-parts
returns-clause-parts g c =
    rw c.remove_in-item.ensures.rest (remove-first _ _ _ c.remove_in-item.ensures.within (rw (← c.self.view_is) c.in_ok-place.ensures.index) (c.remove_in-item.ensures.item _))
