use Rattle.std.proofs.Common.{◌≡◌, length, eq-eqb, ap, ◌∙◌, arith}
use Rattle.iddqd_bi.specs.Bag.{conflicting}
use Rattle.iddqd_bi.specs.Keys.{ranks}
use Rattle.iddqd_bi.specs.Map.{bag}
use Rattle.iddqd_bi.proofs.CallerLemmas.{length-overwritten_by}
use Rattle.caller_bi.proofs.laws.leaving.overwritten_length.Goals as goal

-- the items that are returned are those that conflicted
pub returns-then-count-le2 : goal.returns-then-count-le2
returns-then-count-le2 g c =
    let ranks = ranks g.T.BiHashItem g.T.K1.PartialEq.eq g.T.K2.PartialEq.eq in
    let more = length-overwritten_by ranks (bag c.args.map.now) (bag c.insert_overwrite.new.self) c.args.item c.in-Ok.ensures.overwrites.items in
    let gave : c.len-count.result ≡ length (conflicting ranks (bag c.args.map.now) c.args.item) = c.len-count.ensures.value ∙ ap length c.in-Ok.ensures.displaced in
    eq-eqb _ _ (omega (arith, more, gave, c.len.ensures.value, c.len-before.ensures.value))
