-- Written by hand; tests/one_key.patch says why.
use Rattle.iddqd_id.proofs.entry.OccupiedEntry.get.Goals as goal

pub returns : goal.returns
returns g c = rw c.item_at.ensures at c.requires.only
