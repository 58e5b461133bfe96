-- Written by hand; tests/one_key.patch says why.
use Rattle.std.proofs.Common.{sym, ◌∙◌}
use Rattle.iddqd_store.specs.Map.{bag}
use Rattle.iddqd_id.proofs.FoundLemmas.{clash_found, clash_not_found}
use Rattle.iddqd_id.proofs.error.InsertError.reason.Goals as goal

pub returns-then-is_some-clause-duplicate : goal.returns-then-is_some-clause-duplicate
returns-then-is_some-clause-duplicate g c = λ duplicate.
    (let e = c.args.self.now in
    clash_found g.T.Ranked.ranks (bag e.map.now) e.item c.duplicate.result c.duplicate.ensures (sym c.is_some.ensures ∙ c.if-is_some.true))

pub returns-else-is_some-clause-none_taken : goal.returns-else-is_some-clause-none_taken
returns-else-is_some-clause-none_taken g c = λ memory.
    (let e = c.args.self.now in
    clash_not_found g.T.Ranked.ranks (bag e.map.now) e.item c.duplicate.result c.duplicate.ensures (sym c.is_some.ensures ∙ c.if-is_some.false))
