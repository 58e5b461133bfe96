use Rattle.iddqd_ord.proofs.entry.Entry.or_try_insert_with.Goals as goal

pub returns-in-Vacant-clause-puts_in : goal.returns-in-Vacant-clause-puts_in
returns-in-Vacant-clause-puts_in g c = rw c.in-Vacant.is (c.f.result, c.f.ensures, c.insert_made.ensures.puts_in)
