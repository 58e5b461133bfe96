use Rattle.iddqd_store.proofs.TableLemmas.Limits.{mask_after}
use Rattle.iddqd_store.proofs.index_table.probe.after.Goals as goal

pub returns : goal.returns
returns c = mask_after c.args.at c.args.count c.requires.size c.requires.below
