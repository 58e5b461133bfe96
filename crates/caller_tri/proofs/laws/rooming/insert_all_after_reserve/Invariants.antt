-- Made by tests/widths from crates/caller_bi/proofs/laws/rooming/insert_all_after_reserve/Invariants.antt: change that file.
use Rattle.std.proofs.Common.{◌≤◌, ◌+◌, length}
use Rattle.iddqd_tri.specs.Map.{bag}
use Rattle.caller_tri.proofs.laws.rooming.insert_all_after_reserve.Given as goal

-- there is room for all that are left
abbrev pub invariant-loop-item : goal.invariant-loop-item
invariant-loop-item g l = length (bag l.map) + l.items.len ≤ l.map.capacity

abbrev pub decreases-loop-item : goal.decreases-loop-item
decreases-loop-item g l = l.items.len
