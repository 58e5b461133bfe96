use Rattle.std.proofs.Common.{◌≡◌, [], rules}
use Rattle.iddqd_store.specs.Bag.{listing}
use Rattle.iddqd_store.specs.Map.{bag}
use Rattle.iddqd_store.specs.Map.State.{state_of}
use Rattle.iddqd_commands.proofs.EntrySteps.{or_inserts_vacant}
use Rattle.iddqd_bi.specs.Keys.{ranks, key_tests}
use Rattle.iddqd_bi.proofs.MapLemmas.{AreKeyTests-keys}
use Rattle.iddqd_commands_bi.proofs.run.entries.or_insert.Goals as goal

pub returns-in-Ok-clause-step : goal.returns-in-Ok-clause-step
returns-in-Ok-clause-step g c =
    let v = c.in-Vacant.v in
    let known = rw c.in-Vacant.is at c.entry.ensures.keys in
    let same = rw c.in-Vacant.is at c.entry.ensures.unchanged in
    let eq1 = g.T.K1.PartialEq.eq in
    let eq2 = g.T.K2.PartialEq.eq in
    let keys = AreKeyTests-keys g.T.BiHashItem eq1 eq2 g.met.T.K1.Eq.laws g.met.T.K2.Eq.laws c.args.key1.now c.args.key2.now in
    or_inserts_vacant g.row.T-Data.Denot (ranks g.T.BiHashItem eq1 eq2)
    (key_tests g.T.BiHashItem eq1 eq2 c.args.key1.now c.args.key2.now) keys (state_of c.args.map.now) _ c.args.item
    (search rules) (rw (← known.key1, ← known.key2, ← same) v.absent) (search rules) (search rules) (search rules)

-- a vacant entry that rejects an item found nothing
pub returns-in-Err-clause-step : goal.returns-in-Err-clause-step
returns-in-Err-clause-step g c =
    let asked = c.in-Vacant.ensures in
    let none : listing (key_tests g.T.BiHashItem g.T.K1.PartialEq.eq g.T.K2.PartialEq.eq c.args.key1.now c.args.key2.now) (bag c.args.map.now) ≡ [] =
    rw (← asked.keys.key1, ← asked.keys.key2, ← asked.unchanged) c.in-Vacant.v.absent in
    search (rules, none)
