use Rattle.std.proofs.Common.{◌≡◌, ◌++◌, drop}
use Rattle.std.specs.Prelude.{codes, string_bytes}
use Rattle.iddqd_text.specs.Printed.{items_text}
use Rattle.iddqd_text.specs.Sorted.{by_first_key}
use Rattle.iddqd_text.proofs.print.list_line.Given as goal

-- the items so far and those that are left are all
abbrev pub invariant-loop-item : goal.invariant-loop-item
invariant-loop-item g l = string_bytes l.line ++ items_text g.T.Numbers.numbers (drop l.item-index l.item-items)
    ≡ codes "list" ++ items_text g.T.Numbers.numbers (by_first_key g.T.Numbers.numbers l.fn.items)
