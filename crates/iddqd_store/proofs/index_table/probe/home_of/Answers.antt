use Rattle.iddqd_store.proofs.TableLemmas.Limits.{mask_home}
use Rattle.iddqd_store.proofs.index_table.probe.home_of.Goals as goal

pub returns : goal.returns
returns c = mask_home c.args.hash c.args.count c.requires.size c.requires.some
