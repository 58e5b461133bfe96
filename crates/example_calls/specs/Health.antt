-- What a hall ends as, if the health of a machine is borrowed for writing.
use Rattle.std.specs.Prelude.{Bool, Option}
use Rattle.std.specs.Borrow.{Fml, LendsIf, MutBor}
use Rattle.iddqd_id.specs.Map.Written.{put_where}
use Rattle.example_calls.specs.contracts.health.Hall as hall
use Rattle.example_calls.specs.contracts.health.Health as health
use Rattle.example_calls.specs.declared.health.Hall.{Hall}
use Rattle.example_calls.specs.declared.health.Health.{Health}
use Rattle.example_calls.specs.declared.health.Machine.{Machine}

-- `put_health` is the machine with this health.
abbrev pub put_health : Machine → Health → Machine
put_health m h = record m { health = h }

-- What is written through `r` is the health of the machine that passes the test, and no other machine changes. If there
-- is no `r`, no machine changes.
abbrev pub lends_health : MutBor Hall → (Machine → Bool) → Option (MutBor Health) → Fml
lends_health s test r = LendsIf hall.the_row health.the_row s r
    (λ h. record s.now { machines = put_where put_health test s.now.machines h }) s.now
