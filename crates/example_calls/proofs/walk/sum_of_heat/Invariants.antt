use Rattle.std.proofs.Common.{◌≡◌, ◌≤◌, ◌+◌, ◌-◌, ◌^◌, ℕ, List, min, sum, map}
use Rattle.iddqd_id.specs.Map.{bag}
use Rattle.example_calls.specs.declared.walk.Sensor.{Sensor}
use Rattle.example_calls.proofs.walk.sum_of_heat.Given as goal

-- the sum of the heat of these sensors
abbrev pub total : List Sensor → ℕ
total sensors = sum (map (λ (s : Sensor). s.heat) sensors)

-- the sum so far and the heat of the sensors that are left make the whole, up to the limit
abbrev pub invariant-loop-sensor : goal.invariant-loop-sensor
invariant-loop-sensor l = (min (l.sum + total l.sensor-iterator) (2 ^ 32 - 1) ≡ min (total (bag l.sensors)) (2 ^ 32 - 1)) × (l.sum ≤ 2 ^ 32 - 1)
