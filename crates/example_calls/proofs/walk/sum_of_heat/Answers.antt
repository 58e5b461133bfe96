use Rattle.std.proofs.Common.{rules, arith, subst, ◌≡◌, ◌+◌, ◌-◌, ◌^◌, [], min}
use Rattle.iddqd_id.specs.Map.{bag}
use Rattle.example_calls.proofs.walk.sum_of_heat.Invariants.{total}
use Rattle.example_calls.proofs.walk.sum_of_heat.Goals as goal

-- if no sensor is left, the sum is complete
pub returns : goal.returns
returns c =
    let sum = c.loop-sensor.sum in
    let ended : c.loop-sensor.sensor-iterator ≡ [] = search rules in
    let whole = subst (λ left. min (sum + total left) (2 ^ 32 - 1) ≡ min (total (bag c.args.sensors.now)) (2 ^ 32 - 1)) ended c.loop-sensor.invariant.0 in
    omega (arith, whole, c.loop-sensor.invariant.1)
