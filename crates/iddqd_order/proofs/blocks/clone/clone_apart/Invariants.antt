use Rattle.std.proofs.Common.{take}
use Rattle.std.specs.List.{AllZip}
use Rattle.iddqd_order.specs.Row.{entries_in}
use Rattle.iddqd_order.proofs.blocks.clone.clone_apart.Given as goal

-- the first of the entries are cloned
abbrev pub invariant-loop-entry : goal.invariant-loop-entry
invariant-loop-entry g l = AllZip g.E.Clone.is_clone (take l.entry-index l.entry-items) (entries_in l.copy)
