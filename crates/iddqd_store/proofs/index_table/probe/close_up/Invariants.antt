use Rattle.std.proofs.Common.{◌-◌, length}
use Rattle.iddqd_store.proofs.TableLemmas.Closing.{IsClosing}
use Rattle.iddqd_store.proofs.index_table.probe.close_up.Given as goal

abbrev pub invariant-loop-pair : goal.invariant-loop-pair
invariant-loop-pair l = IsClosing l.fn.cells l.cells l.hash l.emptied l.initial.meter l.meter l.hole l.far l.at

abbrev pub decreases-loop-pair : goal.decreases-loop-pair
decreases-loop-pair l = length l.fn.cells - (l.meter - l.initial.meter)
