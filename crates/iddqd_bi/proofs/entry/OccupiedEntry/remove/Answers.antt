use Rattle.std.proofs.Common.{[], ◌∷◌}
use Rattle.iddqd_store.proofs.SlotLemmas.Entries.{IsDistinct-each_once}
use Rattle.iddqd_bi.proofs.entry.OccupiedEntry.remove.Goals as goal

pub remove_slots-requires-clause-apart : goal.remove_slots-requires-clause-apart
remove_slots-requires-clause-apart g c = rw c.each_once.ensures (IsDistinct-each_once (c.args.self.slot1 ∷ c.args.self.slot2 ∷ []))
