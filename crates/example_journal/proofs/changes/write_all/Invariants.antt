use Rattle.std.proofs.Common.{◌≡◌, ◌++◌, List}
use Rattle.iddqd_bi.specs.Map.{bag}
use Rattle.example_journal.specs.Changes.{Tells}
use Rattle.example_journal.specs.declared.changes.Device.{Device}
use Rattle.example_journal.proofs.changes.write_all.Given as goal

-- the lines of the devices so far
abbrev pub invariant-loop-device : goal.invariant-loop-device
invariant-loop-device l = (done : List Device) × (bag l.devices ≡ done ++ l.device-iterator) × Tells l.lines.items done
