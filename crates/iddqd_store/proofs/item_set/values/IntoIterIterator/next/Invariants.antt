use Rattle.std.proofs.Common.{◌≡◌, map, length}
use Rattle.std.specs.Vec.Iter.{into_iter_items}
use Rattle.iddqd_store.specs.Slots.{contents}
use Rattle.iddqd_store.specs.Slots.Chain.{item_of}
use Rattle.iddqd_store.proofs.item_set.values.IntoIterIterator.next.Given as goal

-- only free slots were passed over
abbrev pub invariant-loop-slot : goal.invariant-loop-slot
invariant-loop-slot g l =
    (l.self-inside.len ≡ length (contents (map item_of (into_iter_items l.self-inside.slots))))
    × (contents (map item_of (into_iter_items l.self-inside.slots)) ≡ l.fn.self)

abbrev pub decreases-loop-slot : goal.decreases-loop-slot
decreases-loop-slot g l = length (into_iter_items l.self-inside.slots)
