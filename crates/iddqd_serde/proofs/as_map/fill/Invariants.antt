use Rattle.std.specs.Prelude.{◌≡◌, ◌+◌, None, length}
use Rattle.serde.specs.Event.{map_begins, key_begins}
use Rattle.iddqd_serde.specs.Reading.{HasRead, Reads}
use Rattle.iddqd_serde.proofs.as_map.fill.Given as goal

-- as many entries were read, counted and found to agree as the map has items
abbrev pub invariant-loop : goal.invariant-loop
invariant-loop g l =
    HasRead (Reads g.F.Format.gives (map_begins None)) (Reads g.F.Format.gives key_begins) (length (g.M.Collection.listed l.map)) l.fn.from l.from
    × (g.M.Fillable.HasNewBuilder l.fn.map → g.M.Fillable.HasNewBuilder l.map)
    × (l.read ≡ l.fn.read + length (g.M.Collection.listed l.map))
    × (l.agreed ≡ l.fn.agreed + length (g.M.Collection.listed l.map))
