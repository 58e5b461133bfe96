use Rattle.std.specs.Prelude.{[], ◌∷◌}
use Rattle.std.specs.String.{string_eq, string_eq_equiv}
use Rattle.iddqd_bi.specs.Map.{bag}
use Rattle.iddqd_bi.proofs.CallerLemmas.Batches.{batch-found}
use Rattle.caller_bi.specs.declared.users.User.{User}
use Rattle.caller_bi.proofs.users.register_all.Goals as goal

-- a login names one user of a sound bag
pub returns-in-Ok-clause-found : goal.returns-in-Ok-clause-found
returns-in-Ok-clause-found c =
    batch-found (_ ∷ []) [] (λ (u : User). u.login) string_eq string_eq_equiv (bag c.args.users.now) (bag c.load.new.map) c.args.batch.items c.in-Ok.ensures.sound c.in-Ok.ensures.all

pub returns-in-Err-clause-rejected : goal.returns-in-Err-clause-rejected
returns-in-Err-clause-rejected c = (c.in-Err._reason, c.in-Err.ensures.rejected)
