use Rattle.std.specs.Prelude.{◌≡◌, ◌+◌, None, length}
use Rattle.iddqd_serde.specs.Reading.{HasRead, Reads}
use Rattle.serde.specs.Event.{seq_begins}
use Rattle.serde.specs.Steps.{Stays}
use Rattle.iddqd_serde.proofs.fill.Given as goal

-- as many items were read and counted as the map has
abbrev pub invariant-loop : goal.invariant-loop
invariant-loop g l =
    HasRead (Reads g.F.Format.gives (seq_begins None)) (Stays g.F.Format.stays) (length (g.M.Collection.listed l.map)) l.fn.from l.from
    × (g.M.Fillable.HasNewBuilder l.fn.map → g.M.Fillable.HasNewBuilder l.map)
    × (l.items ≡ l.fn.items + length (g.M.Collection.listed l.map))
