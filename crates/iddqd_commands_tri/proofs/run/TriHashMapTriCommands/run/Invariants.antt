-- Made by tests/widths from crates/iddqd_commands_bi/proofs/run/BiHashMapBiCommands/run/Invariants.antt: change that file.
use Rattle.std.proofs.Common.{◌≡◌}
use Rattle.std.specs.Vec.Iter.{into_iter_items}
use Rattle.iddqd_store.specs.Map.State.{state_of}
use Rattle.iddqd_commands.specs.Run.{Run}
use Rattle.iddqd_commands_tri.specs.Step.{Step}
use Rattle.iddqd_commands_tri.proofs.run.TriHashMapTriCommands.run.Given as goal

-- each run of the rest of the commands from here completes one of all of them from the start
abbrev pub invariant-loop-command : goal.invariant-loop-command
invariant-loop-command g l =
    let Runs = Run (Step g.T.TriHashItem g.T.K1.PartialEq.eq g.T.K2.PartialEq.eq g.T.K3.PartialEq.eq g.T.TriHashItemMut.put) g.K.TriSink.took in
    record {
      completes : (answer : _) (new : _) (after : _) → Runs (state_of l.self) l.sink (into_iter_items l.command-iterator) answer new after
          → Runs (state_of l.fn.self) l.fn.sink l.fn.commands.items answer new after;
      builder : l.self.builder ≡ l.fn.self.builder;
    }
