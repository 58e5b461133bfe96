-- Made by tests/widths from crates/caller_bi/proofs/laws/leaving/overwritten_length/Answers.antt: change that file.
use Rattle.std.proofs.Common.{◌≡◌, length, eq-eqb, ap, ◌∙◌, arith}
use Rattle.iddqd_tri.specs.Bag.{conflicting}
use Rattle.iddqd_tri.specs.Keys.{ranks}
use Rattle.iddqd_tri.specs.Map.{bag}
use Rattle.iddqd_tri.proofs.CallerLemmas.{length-overwritten_by}
use Rattle.caller_tri.proofs.laws.leaving.overwritten_length.Goals as goal

-- the items that are returned are those that conflicted
pub returns-then-count-le3 : goal.returns-then-count-le3
returns-then-count-le3 g c =
    let ranks = ranks g.T.TriHashItem g.T.K1.PartialEq.eq g.T.K2.PartialEq.eq g.T.K3.PartialEq.eq in
    let more = length-overwritten_by ranks (bag c.args.map.now) (bag c.insert_overwrite.new.self) c.args.item c.in-Ok.ensures.overwrites.items in
    let gave : c.len-count.result ≡ length (conflicting ranks (bag c.args.map.now) c.args.item) = c.len-count.ensures.value ∙ ap length c.in-Ok.ensures.displaced in
    eq-eqb _ _ (omega (arith, more, gave, c.len.ensures.value, c.len-before.ensures.value))
