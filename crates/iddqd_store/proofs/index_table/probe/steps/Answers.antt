use Rattle.std.proofs.Common.{arith}
use Rattle.iddqd_store.proofs.TableLemmas.Limits.{mask_steps}
use Rattle.iddqd_store.proofs.index_table.probe.steps.Goals as goal

pub returns : goal.returns
returns c = mask_steps c.args.from c.args.to c.args.count c.requires.size (omega (arith, c.ranges.count)) c.requires.from c.requires.to
