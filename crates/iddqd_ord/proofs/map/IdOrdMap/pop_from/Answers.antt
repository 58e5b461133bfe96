use Rattle.iddqd_ord.proofs.ExtractLemmas.{popped}
use Rattle.iddqd_ord.proofs.map.IdOrdMap.pop_from.Goals as goal

pub returns-clause-pops_from : goal.returns-clause-pops_from
returns-clause-pops_from g c =
    let gone = c.remove_in-item.ensures in
    popped c.args.self.now c.remove_in-item.new.self c.in_ok-place.place c.remove_in-item.result.1 c.remove_in-item.result.0 gone.within gone.item gone.rest gone.index c.args.cursor.now
    (rw (← c.self.view_is, ← c.cursor.view_is) c.in_ok-place.ensures.index)
