-- Made by tests/widths from crates/iddqd_sorted/proofs/widths/two_keys/Sorted+BiHashMap+T+S/rekey2/Answers.antt: change that file.
use Rattle.std.proofs.Common.{not, filter}
use Rattle.iddqd_tri.specs.Keys.{has2}
use Rattle.iddqd_sorted.specs.Items.{items}
use Rattle.iddqd_sorted.proofs.Replacing.{IsPermutation-only}
use Rattle.iddqd_sorted.proofs.widths.three_keys.Sorted+TriHashMap+T+S.rekey2.Goals as goal

pub returns-in-Err-Conflict-clause-reason : goal.returns-in-Err-Conflict-clause-reason
returns-in-Err-Conflict-clause-reason g c =
    let test = has2 g.T.TriHashItem g.Q.Query.stands_for c.args.query in
    let all = items c.args.self.now in
    let why = rw c.in-Err-Conflict.field-0-is at c.in-Err-Conflict.ensures.reason in
    (why.0, filter (λ z. not (test z)) all, why.1, IsPermutation-only test all why.0 why.1, why.2)
