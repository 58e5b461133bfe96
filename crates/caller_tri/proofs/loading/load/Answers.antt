-- Made by tests/widths from crates/caller_bi/proofs/loading/load/Answers.antt: change that file.
use Rattle.std.proofs.Common.{sym, ◌∙◌}
use Rattle.std.specs.Prelude.{◌++◌}
use Rattle.iddqd_tri.specs.Map.{bag}
use Rattle.iddqd_tri.specs.Keys.{ranks}
use Rattle.iddqd_tri.proofs.CallerLemmas.Asking.{taken-reason}
use Rattle.iddqd_tri.proofs.CallerLemmas.Batches.{batch-refused, loaded}
use Rattle.caller_tri.proofs.loading.load.Goals as goal

pub returns-in-Ok-clause-all : goal.returns-in-Ok-clause-all
returns-in-Ok-clause-all g c =
    let ranks = ranks g.T.TriHashItem g.T.K1.PartialEq.eq g.T.K2.PartialEq.eq g.T.K3.PartialEq.eq in
    loaded _ (λ it is. is.0) ranks _ _ c.in-Ok.ensures.all

pub returns-in-Err-clause-rejected : goal.returns-in-Err-clause-rejected
returns-in-Err-clause-rejected g c =
    let ranks = ranks g.T.TriHashItem g.T.K1.PartialEq.eq g.T.K2.PartialEq.eq g.T.K3.PartialEq.eq in
    let refused = c.in-Err.refused in
    let came = c.in-Err.ensures.refused in
    let why = c.in-Err.ensures.reason in
    let told = c.reason-reason.ensures in
    let reason = taken-reason ranks (refused.before.items ++ bag c.args.map.now) refused.item c.reason-reason.result (λ is none. told.duplicate is
    (why.taken1 ∙ none.0) (why.taken2 ∙ none.1.0) (why.taken3 ∙ none.1.1.0)) (λ is. let free = told.none_taken is in
    (sym why.taken1 ∙ free.0, (sym why.taken2 ∙ free.1, (sym why.taken3 ∙ free.2, tt)))) in
    batch-refused ranks (bag c.args.map.now) c.args.batch.items came.0 came.3.0 refused.item c.reason-reason.result refused.before.items came.1 came.2 came.4 came.5 why.apart reason
