use Rattle.std.proofs.Common.{◌≡◌, ℕ, ◌<◌, ◌≤◌, None}
use Rattle.iddqd_store.specs.Slots.{get}
use Rattle.iddqd_store.proofs.item_set.ItemSet.next_live.Given as goal

abbrev pub invariant-loop-index : goal.invariant-loop-index
invariant-loop-index g l = (k : ℕ) → l.from ≤ k → k < l.index → get l.self.slots k ≡ None
