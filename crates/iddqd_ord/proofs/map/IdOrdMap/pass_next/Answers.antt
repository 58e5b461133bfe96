use Rattle.iddqd_ord.proofs.ExtractLemmas.{passes}
use Rattle.iddqd_ord.proofs.map.IdOrdMap.pass_next.Goals as goal

pub returns-clause-passes : goal.returns-clause-passes
returns-clause-passes g c =
    passes c.args.self.now c.in_ok-place.place c.args.cursor.now c.behind-cursor-inside.result (rw (← c.self.view_is) c.in_ok-place.ensures.entry)
    (rw (← c.self.view_is, ← c.cursor.view_is) c.in_ok-place.ensures.index) (rw (← c.self.view_is) c.behind-cursor-inside.ensures.index)
