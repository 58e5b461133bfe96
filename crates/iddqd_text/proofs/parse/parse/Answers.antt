use Rattle.std.proofs.Common.{sym, ◌∙◌, ap, ◌+◌, arith}
use Rattle.std.specs.Option.{option_map}
use Rattle.iddqd_text.proofs.Parsing.{spells_none}
use Rattle.iddqd_text.proofs.parse.parse.Goals as goal

pub returns-in-None : goal.returns-in-None
returns-in-None g c =
    spells_none g.C.Command.command_of g.C.Command.spelled c.args.text.now c.loop-rest.rest.now c.cut.result.0.now c.cut.result.1.now c.loop-rest.commands.items (c.loop-rest.number + 1)
    c.cut.ensures.lines (ap (option_map g.C.Command.spelled) (sym c.in-None.is) ∙ c.in_ok-command.ensures) (omega (arith, c.loop-rest.invariant.counted)) c.loop-rest.invariant.spells
