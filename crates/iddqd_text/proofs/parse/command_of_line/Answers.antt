use Rattle.std.proofs.Common.{sym, ◌∙◌, refl, ◌≡◌, ◌-◌, None, Some, length, take, drop}
use Rattle.iddqd_text.specs.Commands.{command_of_line}
use Rattle.iddqd_text.proofs.Fields.{with_word}
use Rattle.iddqd_text.proofs.parse.command_of_line.Goals as goal

pub returns-then-not-branch : goal.returns-then-not-branch
returns-then-not-branch g c =
    sym (with_word g.C.Command.command_of c.args.line.now
    (take (length c.args.line.now - c.end_of_field-at.result) (drop c.end_of_field-at.result c.args.line.now)) c.end_of_field-at.result c.in-Some.word None
    c.end_of_field-at.ensures.place (sym c.word_of.ensures ∙ c.in-Some.is) refl (rw c.if-not-branch.true at c.in_ok-read_numbers.ensures))

pub returns : goal.returns
returns g c =
    let spells : command_of_line g.C.Command.command_of c.args.line.now ≡ g.C.Command.command_of c.in-Some.word c.as_slice.result.now =
    with_word g.C.Command.command_of c.args.line.now
    (take (length c.args.line.now - c.end_of_field-at.result) (drop c.end_of_field-at.result c.args.line.now)) c.end_of_field-at.result c.in-Some.word (Some c.as_slice.result.now)
    c.end_of_field-at.ensures.place (sym c.word_of.ensures ∙ c.in-Some.is) refl (rw (c.as_slice.ensures.value) (rw c.if-not-branch.false at c.in_ok-read_numbers.ensures)) in
    rw spells c.command_of.ensures
