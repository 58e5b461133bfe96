use Rattle.std.proofs.Common.{◌-◌, length}
use Rattle.iddqd_store.proofs.TableLemmas.Sought.{IsSought}
use Rattle.iddqd_store.proofs.index_table.IndexTable.find_cell.Given as goal

abbrev pub invariant-loop-pair : goal.invariant-loop-pair
invariant-loop-pair g l =
    let m = g.M.Matcher in
    record {
      sought : IsSought l.self-inside.cells l.hash m.accepts m.asked m.MayAsk l.initial.matcher l.matcher l.initial.meter l.meter l.at;
      kept : m.IsKept l.initial.matcher l.matcher;
    }

abbrev pub decreases-loop-pair : goal.decreases-loop-pair
decreases-loop-pair g l = length l.self-inside.cells - (l.meter - l.initial.meter)
