use Rattle.std.specs.Prelude.{◌≡◌, List, ◌++◌, length}
use Rattle.std.specs.Prelude.{map as each}
use Rattle.iddqd_bi.specs.Map.{bag}
use Rattle.iddqd_bi.specs.Walk.{passed_items, to_come}
use Rattle.caller_bi.proofs.walking.write_all.Given as goal

-- what was passed is some of the items, each written, and the rest is to come
abbrev pub invariant-loop-item : goal.invariant-loop-item
invariant-loop-item g l =
    (done : List g.row.T.Denot) × (passed_items l.map l.at ≡ each (λ x. g.T.BiHashItemMut.put x l.d) done) × (done ++ to_come l.map l.at ≡ bag l.initial.map)

abbrev pub decreases-loop-item : goal.decreases-loop-item
decreases-loop-item g l = length (to_come l.map l.at)
