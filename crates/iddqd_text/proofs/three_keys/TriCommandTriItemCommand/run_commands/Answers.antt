-- Made by tests/widths from crates/iddqd_text/proofs/two_keys/BiCommandBiItemCommand/run_commands/Answers.antt: change that file.
use Rattle.std.proofs.Common.{rules}
use Rattle.std.specs.Prelude.{string_bytes}
use Rattle.iddqd_store.specs.Map.State.{state_of}
use Rattle.iddqd_text.specs.Printed.{line_of}
use Rattle.iddqd_text.specs.ThreeKeys.{numbers, Steps}
use Rattle.iddqd_text.proofs.Replying.{prints}
use Rattle.iddqd_text.proofs.three_keys.TriCommandTriItemCommand.run_commands.Goals as goal

pub returns : goal.returns
returns c = rw c.into_text.ensures
    (prints Steps (line_of numbers) (λ sink. string_bytes sink.text) c.args.commands.items (state_of c.new-map.result)
    (state_of c.run.new.self) c.new-sink.result c.run.new.sink c.run.result c.in_ok-run.field-0
    (search rules) c.new-sink.ensures c.in_ok-run.was c.run.ensures.run)
