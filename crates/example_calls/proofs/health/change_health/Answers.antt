use Rattle.std.proofs.Common.{refl}
use Rattle.example_calls.proofs.health.change_health.Goals as goal

pub returns-in-Some-clause-changed : goal.returns-in-Some-clause-changed
returns-in-Some-clause-changed g c = λ yes.
    let it = c.in-Some.ensures.value in (
      it.0,
      c.f.new.arg2,
      it.1,
      record { shown = c.in-Some.health; shows = it.2; left = _; met = c.f.ensures; leaves = refl },
      c.in-Some.ensures.swaps it.0 c.f.new.arg2 it.1,
    )
