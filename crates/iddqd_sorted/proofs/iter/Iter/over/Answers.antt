use Rattle.iddqd_sorted.specs.Entries.{item_in}
use Rattle.iddqd_sorted.proofs.Entries.{length-items}
use Rattle.iddqd_sorted.proofs.iter.Iter.over.Goals as goal

pub returns-clause-as_many : goal.returns-clause-as_many
returns-clause-as_many g c = length-items (item_in c.args.items.now.slots) c.args.entries c.requires
