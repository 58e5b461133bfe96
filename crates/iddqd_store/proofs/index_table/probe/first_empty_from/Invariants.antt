use Rattle.std.proofs.Common.{◌-◌, ◌≤◌, length}
use Rattle.iddqd_store.proofs.TableLemmas.Search.{Walk}
use Rattle.iddqd_store.proofs.index_table.probe.first_empty_from.Given as goal

abbrev pub invariant-loop-at : goal.invariant-loop-at
invariant-loop-at l = record {
  probed : l.initial.meter ≤ l.meter;
  walk : Walk l.cells (l.from) l.at (l.meter - l.initial.meter);
}

abbrev pub decreases-loop-at : goal.decreases-loop-at
decreases-loop-at l = length l.cells - (l.meter - l.initial.meter)
