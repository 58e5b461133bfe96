-- Made by tests/widths from crates/iddqd_commands_bi/proofs/run/inserting/apply_insert_unique/Answers.antt: change that file.
use Rattle.std.proofs.Common.{rules, ◌∙◌}
use Rattle.iddqd_store.specs.Map.{bag}
use Rattle.iddqd_store.specs.declared.error.InsertReason.TheVariants.{Duplicate}
use Rattle.iddqd_store.proofs.CallerLemmas.Asking.{taken-reason}
use Rattle.iddqd_tri.specs.Keys.{ranks}
use Rattle.iddqd_commands_tri.proofs.run.inserting.apply_insert_unique.Goals as goal

-- an item of which a key is taken conflicts with others
pub returns-then-refused-clause-step : goal.returns-then-refused-clause-step
returns-then-refused-clause-step g c =
    let why = c.in-Err.ensures.reason in
    let taken = taken-reason (ranks g.T.TriHashItem g.T.K1.PartialEq.eq g.T.K2.PartialEq.eq g.T.K3.PartialEq.eq) (bag c.args.map.now) c.args.item Duplicate
    (λ is none. absurd (cc (rw (why.taken1 ∙ none.0, why.taken2 ∙ none.1.0, why.taken3 ∙ none.1.1.0) at c.if-refused.true))) (λ is. absurd (cc is)) in
    search (rules, taken)
