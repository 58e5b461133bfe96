-- Made by tests/widths from crates/iddqd_commands_bi/proofs/run/writing/set2/Answers.antt: change that file.
use Rattle.std.proofs.Common.{rules}
use Rattle.iddqd_commands.proofs.EntrySteps.{sets_found}
use Rattle.iddqd_tri.specs.Keys.{ranks, has2}
use Rattle.iddqd_tri.specs.RefMuts.{ref_item}
use Rattle.iddqd_commands_tri.proofs.run.writing.set2.Goals as goal

pub returns-in-Some-clause-step : goal.returns-in-Some-clause-step
returns-in-Some-clause-step g c =
    sets_found (ranks g.T.TriHashItem g.T.K1.PartialEq.eq g.T.K2.PartialEq.eq g.T.K3.PartialEq.eq) g.T.TriHashItemMut.put
    (has2 g.T.TriHashItem g.T.K2.PartialEq.eq c.args.key.now) c.args.map.now _ _ c.args.new_data (ref_item c.in-Some.r) c.in-Some.ensures.unchanged
    c.in-Some.r.live (search rules) (search (rules, c.data_mut.ensures.swaps c.args.new_data)) (search rules)
