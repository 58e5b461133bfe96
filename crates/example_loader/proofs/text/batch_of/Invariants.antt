use Rattle.std.proofs.Common.{◌≡◌, length}
use Rattle.example_loader.proofs.text.batch_of.Given as goal

-- each record has a line
abbrev pub invariant-loop : goal.invariant-loop
invariant-loop l = length l.lines.items ≡ length l.records.items
