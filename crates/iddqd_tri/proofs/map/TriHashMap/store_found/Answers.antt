-- Made by tests/widths from crates/iddqd_bi/proofs/map/BiHashMap/store_found/Answers.antt: change that file.
use Rattle.std.proofs.Common.{[], ◌∷◌}
use Rattle.iddqd_store.proofs.MapLemmas.Storing.{live_found}
use Rattle.iddqd_store.proofs.SlotLemmas.Entries.{IsDistinct-each_once}
use Rattle.iddqd_tri.proofs.map.TriHashMap.store_found.Goals as goal

pub store_all-requires-clause-live : goal.store_all-requires-clause-live
store_all-requires-clause-live g c = rw c.each_once.ensures (live_found c.args.self.now.slots (c.args.slot1 ∷ c.args.slot2 ∷ c.args.slot3 ∷ []) c.requires.live)

pub store_all-requires-clause-apart : goal.store_all-requires-clause-apart
store_all-requires-clause-apart g c = rw c.each_once.ensures (IsDistinct-each_once (c.args.slot1 ∷ c.args.slot2 ∷ c.args.slot3 ∷ []))

pub store_all-requires-clause-callable : goal.store_all-requires-clause-callable
store_all-requires-clause-callable g c = rw c.each_once.ensures c.requires.callable
