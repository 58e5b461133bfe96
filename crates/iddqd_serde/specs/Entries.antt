-- What is written of a map with its items behind their keys.
use Rattle.std.specs.Prelude.{List, map}

-- `entries` lists each item behind its key.
-- Example: For the items 3, 5, whose keys are a, b, it is (a, 3), (b, 5).
abbrev pub entries : {Key T : Type 0} → (T → Key) → List T → List (Key × T)
entries key xs = map (λ x. (key x, x)) xs
