use Rattle.std.proofs.Common.{rules}
use Rattle.iddqd_commands.proofs.EntrySteps.{sets_found}
use Rattle.iddqd_bi.specs.Keys.{ranks, has1}
use Rattle.iddqd_bi.specs.RefMuts.{ref_item}
use Rattle.iddqd_commands_bi.proofs.run.writing.set1.Goals as goal

pub returns-in-Some-clause-step : goal.returns-in-Some-clause-step
returns-in-Some-clause-step g c =
    sets_found (ranks g.T.BiHashItem g.T.K1.PartialEq.eq g.T.K2.PartialEq.eq) g.T.BiHashItemMut.put
    (has1 g.T.BiHashItem g.T.K1.PartialEq.eq c.args.key.now) c.args.map.now _ _ c.args.new_data (ref_item c.in-Some.r) c.in-Some.ensures.unchanged
    c.in-Some.r.live (search rules) (search (rules, c.data_mut.ensures.swaps c.args.new_data)) (search rules)
