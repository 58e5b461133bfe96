use Rattle.std.proofs.Common.{◌≡◌, ◌++◌, length}
use Rattle.std.specs.Prelude.{codes, string_bytes}
use Rattle.iddqd_text.specs.Printed.{items_text}
use Rattle.iddqd_text.proofs.print.displaced_line.Given as goal

-- the items so far and those that are left are all
abbrev pub invariant-loop-item : goal.invariant-loop-item
invariant-loop-item g l = string_bytes l.line ++ items_text g.T.Numbers.numbers (g.G.ShortList.list l.left) ≡ codes "out" ++ items_text g.T.Numbers.numbers (g.G.ShortList.list l.fn.displaced)

abbrev pub decreases-loop-item : goal.decreases-loop-item
decreases-loop-item g l = length (g.G.ShortList.list l.left)
