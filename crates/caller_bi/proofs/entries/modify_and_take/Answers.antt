use Rattle.std.proofs.Common.{rules, sym}
use Rattle.std.proofs.lemmas.List.Sorted.{IsPermutation-refl}
use Rattle.iddqd_bi.specs.Map.{bag}
use Rattle.caller_bi.proofs.entries.modify_and_take.Goals as goal

-- if the keys find nothing, nothing is stored and nothing is removed
pub returns-in-Vacant-clause-taken : goal.returns-in-Vacant-clause-taken
returns-in-Vacant-clause-taken g c =
    let asked = c.in-Vacant.ensures in
    let v = c.in-Vacant._v in
    rw (c.map-1.given.1 (sym asked.same_map), ← asked.unchanged, ← asked.keys.key1, ← asked.keys.key2)
    (bag v.map.now, rw v.absent (IsPermutation-refl (bag v.map.now)), rw v.absent (search rules), search rules)

-- the entry still finds what it found once that is written, so this is what is removed
pub returns-in-Occupied-clause-taken : goal.returns-in-Occupied-clause-taken
returns-in-Occupied-clause-taken g c =
    let asked = c.in-Occupied.ensures in
    let stored = c.for_each.ensures in (
      bag c.for_each.new.self.map.now,
      rw (← asked.unchanged, ← asked.keys.key1, ← asked.keys.key2) stored.stores,
      rw (← asked.keys.key1, ← asked.keys.key2, ← stored.places.query1, ← stored.places.query2) (search rules),
      search rules,
    )
