use Rattle.std.proofs.Common.{sym, ◌∙◌}
use Rattle.iddqd_store.specs.Map.{bag}
use Rattle.iddqd_store.proofs.BagLemmas.Steps.{conflicts_of-listed, conflicts_of-unlisted}
use Rattle.iddqd_bi.proofs.error.InsertError.reason.Goals as goal

pub returns-then-is_empty-clause-none_taken : goal.returns-then-is_empty-clause-none_taken
returns-then-is_empty-clause-none_taken g c = λ memory.
    (let e = c.args.self.now in
    conflicts_of-unlisted (λ item. item.now) c.duplicates.result g.T.Ranked.ranks (bag e.map.now) e.item c.duplicates.ensures (sym c.is_empty.ensures ∙ c.if-is_empty.true))

pub returns-else-is_empty-clause-duplicate : goal.returns-else-is_empty-clause-duplicate
returns-else-is_empty-clause-duplicate g c = λ duplicate.
    (let e = c.args.self.now in
    conflicts_of-listed (λ item. item.now) c.duplicates.result g.T.Ranked.ranks (bag e.map.now) e.item c.duplicates.ensures (sym c.is_empty.ensures ∙ c.if-is_empty.false))
