use Rattle.std.proofs.Common.{sym, ◌∙◌}
use Rattle.std.proofs.lemmas.Bool.{false≢true}
use Rattle.iddqd_order.proofs.FilterLemmas.{any-found}
use Rattle.iddqd_ord.proofs.map.IdOrdMap.try_insert_counted.Goals as goal

pub returns-in-Ok-clause-granted : goal.returns-in-Ok-clause-granted
returns-in-Ok-clause-granted g c = λ free room.
    (let found = rw c.key.ensures at c.in-Ok.ensures.found in
    sym free ∙ any-found _ _ _ found)

pub returns-in-Ok-clause-reason : goal.returns-in-Ok-clause-reason
returns-in-Ok-clause-reason g c =
    let found = rw c.key.ensures at c.in-Ok.ensures.found in
    record { taken = sym (any-found _ _ _ found); full = λ none. absurd (false≢true (sym none)) }

pub returns-in-Err-insert_or_refuse-clause-reason : goal.returns-in-Err-insert_or_refuse-clause-reason
returns-in-Err-insert_or_refuse-clause-reason g c =
    let free = c.in-Err-insert_or_refuse.ensures.free in
    record { taken = sym free; full = λ none. record { free = free; full = c.in-Err-insert_or_refuse.ensures.full } }
