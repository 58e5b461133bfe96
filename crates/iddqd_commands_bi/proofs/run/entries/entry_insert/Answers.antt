use Rattle.std.proofs.Common.{rules}
use Rattle.iddqd_store.specs.Map.State.{state_of}
use Rattle.iddqd_commands.proofs.EntrySteps.{entry_inserts_vacant, entry_inserts_occupied}
use Rattle.iddqd_bi.specs.Keys.{ranks, key_tests}
use Rattle.iddqd_bi.proofs.MapLemmas.{AreKeyTests-keys}
use Rattle.iddqd_commands_bi.proofs.run.entries.entry_insert.Goals as goal

pub returns-in-Ok-clause-step : goal.returns-in-Ok-clause-step
returns-in-Ok-clause-step g c =
    let v = c.in-Vacant.v in
    let known = rw c.in-Vacant.is at c.entry.ensures.keys in
    let same = rw c.in-Vacant.is at c.entry.ensures.unchanged in
    let eq1 = g.T.K1.PartialEq.eq in
    let eq2 = g.T.K2.PartialEq.eq in
    let keys = AreKeyTests-keys g.T.BiHashItem eq1 eq2 g.met.T.K1.Eq.laws g.met.T.K2.Eq.laws c.args.key1.now c.args.key2.now in
    entry_inserts_vacant g.row.T-Data.Denot (ranks g.T.BiHashItem eq1 eq2)
    (key_tests g.T.BiHashItem eq1 eq2 c.args.key1.now c.args.key2.now) keys (state_of c.args.map.now) _ c.args.item
    (search rules) (rw (← known.key1, ← known.key2, ← same) v.absent) (search rules) (search rules) (search rules) c.new.result c.new.ensures

pub returns-in-Ok-insert-clause-step : goal.returns-in-Ok-insert-clause-step
returns-in-Ok-insert-clause-step g c =
    let eq1 = g.T.K1.PartialEq.eq in
    let eq2 = g.T.K2.PartialEq.eq in
    let keys = AreKeyTests-keys g.T.BiHashItem eq1 eq2 g.met.T.K1.Eq.laws g.met.T.K2.Eq.laws c.args.key1.now c.args.key2.now in
    entry_inserts_occupied g.row.T-Data.Denot (ranks g.T.BiHashItem eq1 eq2)
    (key_tests g.T.BiHashItem eq1 eq2 c.args.key1.now c.args.key2.now) keys (state_of c.args.map.now) _ c.args.item
    (search rules) _ (search rules) (search (rules, c.in-Ok-insert.ensures.puts_over.items)) (search rules)
