-- Written by hand; tests/one_key.patch says why.
use Rattle.std.proofs.Common.{sym, []}
use Rattle.std.proofs.lemmas.List.Elements.{All-head}
use Rattle.iddqd_store.specs.Slots.{IsLive}
use Rattle.iddqd_store.proofs.MapLemmas.Places.{stand_in}
use Rattle.iddqd_store.proofs.RankLemmas.Displaced.{PutsAt-stand, gives_way}
use Rattle.iddqd_id.specs.Keys.{ranks}
use Rattle.iddqd_id.proofs.FoundLemmas.{no_slot, one_slot}
use Rattle.iddqd_id.proofs.map.IdHashMap.overwrite.Goals as goal

pub unreachable-requires : goal.unreachable-requires
unreachable-requires g c = c.requires.some (no_slot (sym c.in_default.ensures))

pub overwrite_one-requires-clause-live : goal.overwrite_one-requires-clause-live
overwrite_one-requires-clause-live g c =
    let stand = stand_in (sym (one_slot (sym c.in-Some.ensures))) c.requires.conflicts in
    All-head (IsLive c.args.self.now.slots) c.in-Some.slot [] stand.live

pub overwrite_one-requires-clause-free : goal.overwrite_one-requires-clause-free
overwrite_one-requires-clause-free g c =
    let stand = stand_in (sym (one_slot (sym c.in-Some.ensures))) c.requires.conflicts in
    gives_way (ranks g.T.IdHashItem g.T.Key.PartialEq.eq) c.args.self.now c.args.item _ stand

pub returns-clause-displaced : goal.returns-clause-displaced
returns-clause-displaced g c = rw c.overwrite_one.ensures.value at (stand_in (sym (one_slot (sym c.in-Some.ensures))) c.requires.conflicts).items

pub returns-clause-puts_at : goal.returns-clause-puts_at
returns-clause-puts_at g c =
    let stand = stand_in (sym (one_slot (sym c.in-Some.ensures))) c.requires.conflicts in
    PutsAt-stand (ranks g.T.IdHashItem g.T.Key.PartialEq.eq) c.args.self.now c.args.item _ stand c.overwrite_one.ensures.puts_at
