-- Made by tests/widths from crates/iddqd_bi/proofs/map/BiHashMap/pop/Answers.antt: change that file.
use Rattle.std.proofs.Common.{rules, ◌≡◌, []}
use Rattle.iddqd_store.specs.Map.{bag}
use Rattle.iddqd_tri.proofs.map.TriHashMap.pop.Goals as goal

pub returns-in_err-slot-clause-empty : goal.returns-in_err-slot-clause-empty
returns-in_err-slot-clause-empty g c =
    let none : bag c.args.self.now ≡ [] = c.in_err-slot.ensures.end in
    search rules
