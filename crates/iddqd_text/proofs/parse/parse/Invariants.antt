use Rattle.std.proofs.Common.{◌≡◌, ◌≤◌, ◌+◌, length, vec_len}
use Rattle.iddqd_text.proofs.Parsing.{SpellsSoFar}
use Rattle.iddqd_text.proofs.parse.parse.Given as goal

-- each line so far spelled a command, and took a byte at least
abbrev pub invariant-loop-rest : goal.invariant-loop-rest
invariant-loop-rest g l = record {
  spells : SpellsSoFar g.C.Command.command_of g.C.Command.spelled l.fn.text l.commands.items l.rest;
  counted : l.number ≡ vec_len l.commands;
  bounded : l.number + length l.rest ≤ length l.fn.text;
}

abbrev pub decreases-loop-rest : goal.decreases-loop-rest
decreases-loop-rest g l = length l.rest
