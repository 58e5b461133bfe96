use Rattle.std.proofs.Common.{◌≡◌, ◌++◌, length}
use Rattle.std.specs.Prelude.{codes, map, string_bytes}
use Rattle.iddqd_text.specs.Printed.{items_text}
use Rattle.iddqd_text.proofs.print.duplicates_line.Given as goal

-- the items so far and those that are left are all
abbrev pub invariant-loop-item : goal.invariant-loop-item
invariant-loop-item g l = string_bytes l.line ++ items_text g.T.Numbers.numbers (map (λ item. item.now) (g.L.ShortList.list l.left))
    ≡ codes "dup" ++ items_text g.T.Numbers.numbers (map (λ item. item.now) (g.L.ShortList.list l.fn.duplicates))

abbrev pub decreases-loop-item : goal.decreases-loop-item
decreases-loop-item g l = length (g.L.ShortList.list l.left)
