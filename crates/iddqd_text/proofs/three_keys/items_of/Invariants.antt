-- Made by tests/widths from crates/iddqd_text/proofs/two_keys/items_of/Invariants.antt: change that file.
use Rattle.std.proofs.Common.{◌≡◌, length}
use Rattle.iddqd_text.proofs.Counting.{after_all}
use Rattle.iddqd_text.specs.ThreeKeys.{items_of}
use Rattle.iddqd_text.proofs.three_keys.items_of.Given as goal

-- the items so far, before those of the numbers that are left
abbrev pub invariant-loop-rest : goal.invariant-loop-rest
invariant-loop-rest l = after_all l.items.items (items_of l.rest) ≡ items_of l.fn.numbers

abbrev pub decreases-loop-rest : goal.decreases-loop-rest
decreases-loop-rest l = length l.rest
