use Rattle.std.proofs.Common.{ℕ, ◌-◌, ◌%◌, ◌<◌, ◌≤◌, length, Some}
use Rattle.std.specs.Prelude.{◌≢◌}
use Rattle.iddqd_store.specs.Table.Ring.{cell}
use Rattle.iddqd_store.proofs.TableLemmas.Stretch.{place}
use Rattle.iddqd_store.proofs.TableLemmas.Search.{Walk}
use Rattle.iddqd_store.proofs.index_table.probe.seek.Given as goal

abbrev pub invariant-loop-pair : goal.invariant-loop-pair
invariant-loop-pair l = record {
  probed : l.initial.meter ≤ l.meter;
  walk : Walk l.cells (l.hash % length l.cells) l.at (l.meter - l.initial.meter);
  unmet : (k : ℕ) → k < l.meter - l.initial.meter → cell l.cells (place (length l.cells) (l.hash % length l.cells) k) ≢ Some (l.hash, l.index);
}

abbrev pub decreases-loop-pair : goal.decreases-loop-pair
decreases-loop-pair l = length l.cells - (l.meter - l.initial.meter)
