use Rattle.std.proofs.Common.{◌≡◌, ◌==◌, ◌∷◌, [], filter, rules}
use Rattle.iddqd_bi.specs.Map.{bag}
use Rattle.iddqd_bi.proofs.CallerLemmas.Laws.{given-has, none-listed}
use Rattle.example_journal.specs.declared.changes.Change.TheVariants.{Unplug}
use Rattle.example_journal.specs.declared.changes.Device.{Device}
use Rattle.example_journal.proofs.Lines.{tells-log}
use Rattle.example_journal.proofs.registry.Registry.unplug.Goals as goal

pub returns-in_default-clause-no_device : goal.returns-in_default-clause-no_device
returns-in_default-clause-no_device g c = λ _. search (rules, none-listed (λ (d : Device). c.args.serial == d.serial) (bag c.args.self.now.devices))

pub invariant_of-self-clause-agrees : goal.invariant_of-self-clause-agrees
invariant_of-self-clause-agrees g c = λ _.
    let there = bag c.args.self.now.devices in
    let first : c.in-Some.device ∷ [] ≡ filter (λ (d : Device). c.args.serial == d.serial) there = search rules in
    let own : c.args.serial ≡ c.in-Some.device.serial = search (rules, given-has (λ (d : Device). c.args.serial == d.serial) there c.in-Some.device first) in
    let more = tells-log (g.L.Log.kept c.args.self.now.log) (g.L.Log.kept c.write.new.self.log) there (bag c.remove1.new.self) (Unplug c.in-Some.device) in
    search (rules, c.args.self.now.agrees c.in_ok-write.ensures.was_open, rw own at first, more)
