use Rattle.std.proofs.Common.{◌≡◌, map, length}
use Rattle.iddqd_store.specs.Slots.{contents}
use Rattle.iddqd_store.specs.Slots.Chain.{item_of}
use Rattle.iddqd_store.proofs.item_set.values.IterIterator.next.Given as goal

-- only free slots were passed over
abbrev pub invariant-loop-slot : goal.invariant-loop-slot
invariant-loop-slot g l =
    (l.self-inside.len ≡ length (contents (map item_of l.self-inside.slots.now)))
    × (contents (map item_of l.self-inside.slots.now) ≡ l.fn.self)

abbrev pub decreases-loop-slot : goal.decreases-loop-slot
decreases-loop-slot g l = length l.self-inside.slots.now
