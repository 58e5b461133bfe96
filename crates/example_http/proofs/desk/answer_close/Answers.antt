use Rattle.example_http.proofs.desk.answer_close.Goals as goal

-- the session that was closed is the one with the token
pub returns-in-Some-clause-closed : goal.returns-in-Some-clause-closed
returns-in-Some-clause-closed c = λ _. (c.in-Some.closed, c.in-Some.ensures.it, c.in-Some.ensures.gone)
