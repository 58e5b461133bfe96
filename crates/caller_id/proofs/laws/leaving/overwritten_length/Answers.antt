-- Made by tests/widths from crates/caller_bi/proofs/laws/leaving/overwritten_length/Answers.antt: change that file.
use Rattle.std.proofs.Common.{◌≡◌, length, eq-eqb, ap, arith}
use Rattle.iddqd_id.specs.Bag.{conflicting}
use Rattle.iddqd_id.specs.Keys.{ranks}
use Rattle.iddqd_id.specs.Map.{bag}
use Rattle.iddqd_id.proofs.CallerLemmas.{length-overwritten_by}
use Rattle.caller_id.proofs.laws.leaving.overwritten_length.Goals as goal

-- one item conflicted, the one that is returned
pub returns-in-Ok-Some : goal.returns-in-Ok-Some
returns-in-Ok-Some g c =
    let ranks = ranks g.T.IdHashItem g.T.Key.PartialEq.eq in
    let more = length-overwritten_by ranks (bag c.args.map.now) (bag c.insert_overwrite.new.self) c.args.item c.in-Ok-Some.ensures.overwrites.items in
    let gave : 1 ≡ length (conflicting ranks (bag c.args.map.now) c.args.item) = ap length (rw c.in-Ok-Some.field-0-is at c.in-Ok-Some.ensures.displaced) in
    eq-eqb _ _ (omega (arith, more, gave, c.len.ensures.value, c.len-before.ensures.value))

-- nothing conflicted
pub returns-in-Ok-None : goal.returns-in-Ok-None
returns-in-Ok-None g c =
    let ranks = ranks g.T.IdHashItem g.T.Key.PartialEq.eq in
    let more = length-overwritten_by ranks (bag c.args.map.now) (bag c.insert_overwrite.new.self) c.args.item c.in-Ok-None.ensures.overwrites.items in
    let gave : 0 ≡ length (conflicting ranks (bag c.args.map.now) c.args.item) = ap length (rw c.in-Ok-None.field-0-is at c.in-Ok-None.ensures.displaced) in
    eq-eqb _ _ (omega (arith, more, gave, c.len-in-Ok-None.ensures.value, c.len-before.ensures.value))
