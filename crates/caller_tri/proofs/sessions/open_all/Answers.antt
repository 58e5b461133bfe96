use Rattle.std.specs.Prelude.{[], ◌∷◌}
use Rattle.std.specs.String.{string_eq, string_eq_equiv}
use Rattle.iddqd_tri.specs.Map.{bag}
use Rattle.iddqd_tri.proofs.CallerLemmas.Batches.{batch-found}
use Rattle.caller_tri.specs.declared.sessions.Session.{Session}
use Rattle.caller_tri.proofs.sessions.open_all.Goals as goal

-- a token names one session of a sound bag
pub returns-in-Ok-clause-found : goal.returns-in-Ok-clause-found
returns-in-Ok-clause-found g c =
    batch-found (_ ∷ _ ∷ []) [] (λ (s : Session). s.token) string_eq string_eq_equiv (bag c.args.sessions.now) (bag c.load.new.map) c.args.batch.items c.in-Ok.ensures.sound c.in-Ok.ensures.all

pub returns-in-Err-clause-rejected : goal.returns-in-Err-clause-rejected
returns-in-Err-clause-rejected g c = (c.in-Err._reason, c.in-Err.ensures.rejected)
