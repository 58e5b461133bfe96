use Rattle.std.proofs.Common.{◌≡◌, ◌++◌, length, vec_capacity}
use Rattle.std.specs.Vec.Iter.{into_iter_items}
use Rattle.iddqd_store.specs.Slots.Chain.{live_slots}
use Rattle.iddqd_store.proofs.item_set.compact.gathered.Given as goal

-- those moved, and those still to come
abbrev pub invariant-loop-slot : goal.invariant-loop-slot
invariant-loop-slot g l =
    (l.to.items ++ live_slots (into_iter_items l.rest) ≡ live_slots l.fn.slots.items)
    × (vec_capacity l.to ≡ vec_capacity l.fn.to)

abbrev pub decreases-loop-slot : goal.decreases-loop-slot
decreases-loop-slot g l = length (into_iter_items l.rest)
