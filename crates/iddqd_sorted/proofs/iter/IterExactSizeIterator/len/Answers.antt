use Rattle.std.proofs.Common.{sym, ap, ◌∙◌, length}
use Rattle.iddqd_sorted.specs.Entries.{item_in}
use Rattle.iddqd_sorted.proofs.Entries.{length-items}
use Rattle.iddqd_sorted.proofs.iter.IterExactSizeIterator.len.Goals as goal

pub returns-clause-value : goal.returns-clause-value
returns-clause-value g c = c.len.ensures.value ∙ (sym (length-items (item_in c.self.inside.items.now.slots) c.self.inside.entries c.self.invariant) ∙ ap length c.self.view_is)
