-- Made by tests/widths from crates/iddqd_commands_bi/proofs/run/entries/or_insert/Answers.antt: change that file.
use Rattle.std.proofs.Common.{◌≡◌, [], rules}
use Rattle.iddqd_store.specs.Bag.{listing}
use Rattle.iddqd_store.specs.Map.{bag}
use Rattle.iddqd_store.specs.Map.State.{state_of}
use Rattle.iddqd_commands.proofs.EntrySteps.{or_inserts_vacant}
use Rattle.iddqd_tri.specs.Keys.{ranks, key_tests}
use Rattle.iddqd_tri.proofs.MapLemmas.{AreKeyTests-keys}
use Rattle.iddqd_commands_tri.proofs.run.entries.or_insert.Goals as goal

pub returns-in-Ok-clause-step : goal.returns-in-Ok-clause-step
returns-in-Ok-clause-step g c =
    let v = c.in-Vacant.v in
    let known = rw c.in-Vacant.is at c.entry.ensures.keys in
    let same = rw c.in-Vacant.is at c.entry.ensures.unchanged in
    let eq1 = g.T.K1.PartialEq.eq in
    let eq2 = g.T.K2.PartialEq.eq in
    let eq3 = g.T.K3.PartialEq.eq in
    let keys = AreKeyTests-keys g.T.TriHashItem eq1 eq2 eq3 g.met.T.K1.Eq.laws g.met.T.K2.Eq.laws g.met.T.K3.Eq.laws c.args.key1.now c.args.key2.now c.args.key3.now in
    or_inserts_vacant g.row.T-Data.Denot (ranks g.T.TriHashItem eq1 eq2 eq3)
    (key_tests g.T.TriHashItem eq1 eq2 eq3 c.args.key1.now c.args.key2.now c.args.key3.now) keys (state_of c.args.map.now) _ c.args.item
    (search rules) (rw (← known.key1, ← known.key2, ← known.key3, ← same) v.absent) (search rules) (search rules) (search rules)

-- a vacant entry that rejects an item found nothing
pub returns-in-Err-clause-step : goal.returns-in-Err-clause-step
returns-in-Err-clause-step g c =
    let asked = c.in-Vacant.ensures in
    let none : listing (key_tests g.T.TriHashItem g.T.K1.PartialEq.eq g.T.K2.PartialEq.eq g.T.K3.PartialEq.eq c.args.key1.now c.args.key2.now c.args.key3.now) (bag c.args.map.now) ≡ [] =
    rw (← asked.keys.key1, ← asked.keys.key2, ← asked.keys.key3, ← asked.unchanged) c.in-Vacant.v.absent in
    search (rules, none)
