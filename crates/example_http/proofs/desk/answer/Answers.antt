use Rattle.std.specs.Prelude.{◌≡◌, codes}
use Rattle.std.proofs.Common.{rules}
use Rattle.http.specs.Request.{head_of}
use Rattle.http.specs.Uri.{uri_path}
use Rattle.example_http.specs.Answer.{path_of}
use Rattle.example_http.proofs.Answering.{closes, shows}
use Rattle.example_http.proofs.desk.answer.Goals as goal

-- the session whose path this is was shown, ..
pub returns-then-is_read-2-clause-ok : goal.returns-then-is_read-2-clause-ok
returns-then-is_read-2-clause-ok c =
    let path : uri_path (head_of c.args.request.now).uri ≡ path_of c.in-Some.token = search rules in
    shows _ c.args.sessions.now (head_of c.args.request.now) _ c.in-Some.token c.answer_one.result
    (search rules) path c.answer_one.ensures.found c.answer_one.ensures.missing c.answer_one.ensures.plain

-- .. or closed
pub returns-then-eq-4-clause-ok : goal.returns-then-eq-4-clause-ok
returns-then-eq-4-clause-ok c =
    let path : uri_path (head_of c.args.request.now).uri ≡ path_of c.in-Some.token = search rules in
    let method : (head_of c.args.request.now).method ≡ codes "DELETE" = search rules in
    closes _ c.args.sessions.now c.answer_close.new.sessions (head_of c.args.request.now) _ c.in-Some.token method
    (search rules) path c.answer_close.ensures.closed c.answer_close.ensures.missing c.answer_close.ensures.unchanged c.answer_close.ensures.plain
