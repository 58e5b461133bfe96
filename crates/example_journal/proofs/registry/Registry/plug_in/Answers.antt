use Rattle.std.proofs.Common.{Bor, rules}
use Rattle.iddqd_store.proofs.BagLemmas.Steps.{conflicts_of-listed, conflicts_of-unlisted}
use Rattle.iddqd_bi.specs.Map.{bag}
use Rattle.example_journal.specs.declared.changes.Change.TheVariants.{Plug}
use Rattle.example_journal.specs.declared.changes.Device.{Device}
use Rattle.example_journal.proofs.Lines.{tells-log}
use Rattle.example_journal.proofs.registry.Registry.plug_in.Goals as goal

pub returns-then-not-is_empty-clause-taken : goal.returns-then-not-is_empty-clause-taken
returns-then-not-is_empty-clause-taken g c = λ _. search (rules, conflicts_of-listed (λ (r : Bor Device). r.now) c.conflicts_with.result)

-- nothing conflicts, and there is room
pub unreachable-requires : goal.unreachable-requires
unreachable-requires g c =
    let granted = rw (c.in_ok-write.ensures.devices, c.reserve.ensures.items) at c.try_insert.ensures.granted in
    search (rules, conflicts_of-unlisted (λ (r : Bor Device). r.now) c.conflicts_with.result, granted)

pub invariant_of-self-2-clause-agrees : goal.invariant_of-self-2-clause-agrees
invariant_of-self-2-clause-agrees g c = λ _.
    let there = bag c.args.self.now.devices in
    let more = tells-log (g.L.Log.kept c.args.self.now.log) (g.L.Log.kept c.write.new.self.log) there (bag c.try_insert.new.self) (Plug c.args.device) in
    search (rules, c.args.self.now.agrees c.in_ok-write.ensures.was_open, more)
