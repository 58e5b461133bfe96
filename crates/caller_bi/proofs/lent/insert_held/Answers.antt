use Rattle.caller_bi.proofs.lent.insert_held.Goals as goal

pub returns-in-Err-clause-vacant : goal.returns-in-Err-clause-vacant
returns-in-Err-clause-vacant g c =
    let known = c.in-Vacant.ensures.keys in
    λ e is. rw (← known.key1, ← known.key2, ← c.in-Vacant.ensures.unchanged) c.in-Vacant.v.absent
