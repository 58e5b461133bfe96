use Rattle.std.proofs.Common.{◌≤◌, ◌-◌, length, take}
use Rattle.iddqd_bi.specs.Map.{bag}
use Rattle.example_journal.specs.Changes.{Tells}
use Rattle.example_journal.proofs.changes.load.Given as goal

-- the lines so far leave the devices that there are
abbrev pub invariant-loop-rest : goal.invariant-loop-rest
invariant-loop-rest l = (l.at ≤ length l.bytes) × Tells (take l.at l.bytes) (bag l.devices)

abbrev pub decreases-loop-rest : goal.decreases-loop-rest
decreases-loop-rest l = length l.bytes - l.at
