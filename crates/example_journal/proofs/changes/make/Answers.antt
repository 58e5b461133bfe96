use Rattle.std.proofs.Common.{◌≡◌, ◌==◌, [], ◌∷◌, ◌∙◌, filter, ap, rules}
use Rattle.iddqd_bi.specs.Map.{bag}
use Rattle.iddqd_bi.proofs.CallerLemmas.Laws.{given-has}
use Rattle.example_journal.specs.declared.changes.Device.{Device}
use Rattle.example_journal.proofs.changes.make.Goals as goal

-- what was removed is the device of the change
pub returns-in-Some-remove1 : goal.returns-in-Some-remove1
returns-in-Some-remove1 c = λ same.
    let device = c.in-Unplug.device in
    let gone = c.in-Some-remove1.gone in
    let first : gone ∷ [] ≡ filter (λ (d : Device). device.serial == d.serial) (bag c.args.devices.now) = c.in-Some-remove1.ensures.taken in
    let serial : gone.serial ≡ device.serial = search (rules, given-has (λ (d : Device). device.serial == d.serial) (bag c.args.devices.now) gone first) in
    let it : gone ≡ device = ap (λ n. record { serial = n; port = gone.port }) serial ∙ ap (λ n. record { serial = device.serial; port = n }) (search (rules, same)) in
    (c.in-Some.change, search rules, search rules, rw c.in-Unplug.is (rw it at first, rw it at c.in-Some-remove1.ensures.loses.items))
