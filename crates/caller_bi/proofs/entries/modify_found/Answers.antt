use Rattle.iddqd_bi.proofs.CallerLemmas.Calling.{takes_in_turn_always}
use Rattle.caller_bi.proofs.entries.modify_found.Goals as goal

pub for_each-requires-clause-callable : goal.for_each-requires-clause-callable
for_each-requires-clause-callable g c = takes_in_turn_always g.F.FnMut c.args.f c.requires.callable _
