use Rattle.std.specs.Prelude.{◌==◌, Some}
use Rattle.std.proofs.Common.{rules}
use Rattle.iddqd_tri.specs.Bag.{IsOnly}
use Rattle.iddqd_tri.specs.Map.{bag}
use Rattle.example_http.specs.declared.sessions.Session.{Session}
use Rattle.example_http.proofs.Answering.{on_ok}
use Rattle.example_http.proofs.desk.answer_one.Goals as goal

-- the session that is shown is the one with the token
pub returns-in-Ok-clause-found : goal.returns-in-Ok-clause-found
returns-in-Ok-clause-found c =
    let only : IsOnly (λ (t : Session). c.args.token == t.token) (bag c.args.sessions.now) (Some c.in-Some.session.now) = search rules in
    on_ok c.put_slice.result (λ _. (c.in-Some.session.now, only))
