use Rattle.std.proofs.Common.{◌∙◌}
use Rattle.iddqd_bi.specs.Keys.{ranks}
use Rattle.iddqd_bi.specs.Map.{bag}
use Rattle.iddqd_bi.proofs.CallerLemmas.Laws.{equal-permuted}
use Rattle.iddqd_bi.proofs.MapLemmas.{AreLawful-ranks}
use Rattle.caller_bi.proofs.laws.comparing.equal_to_the_same_items.Goals as goal

pub returns : goal.returns
returns g c = λ moved.
    (c.eq.ensures.eq ∙ equal-permuted (ranks g.T.BiHashItem g.T.K1.PartialEq.eq g.T.K2.PartialEq.eq) (AreLawful-ranks g.T.BiHashItem
    g.met.T.K1.Eq.laws g.met.T.K2.Eq.laws) g.T.PartialEq.eq g.met.T.Eq.laws (bag c.args.left.now) (bag c.args.right.now) moved)
