use Rattle.std.proofs.Common.{refl, sym, ◌∙◌}
use Rattle.iddqd_bi.specs.Keys.{ranks}
use Rattle.iddqd_bi.specs.Map.{bag}
use Rattle.iddqd_bi.proofs.CallerLemmas.Laws.{equal-symm}
use Rattle.iddqd_bi.proofs.MapLemmas.{AreLawful-ranks}
use Rattle.caller_bi.proofs.laws.comparing.equal_turned_round.Goals as goal

pub returns-then-eq : goal.returns-then-eq
returns-then-eq g c =
    c.eq-then-eq.ensures.eq ∙ equal-symm (ranks g.T.BiHashItem g.T.K1.PartialEq.eq g.T.K2.PartialEq.eq)
    (AreLawful-ranks g.T.BiHashItem g.met.T.K1.Eq.laws g.met.T.K2.Eq.laws) g.T.PartialEq.eq g.met.T.PartialEq.laws (bag c.args.right.now)
    (bag c.args.left.now) ∙ sym c.eq.ensures.eq ∙ c.if-eq.true

pub returns-else-eq : goal.returns-else-eq
returns-else-eq g c =
    rw (c.eq-else-eq.ensures.eq ∙ equal-symm (ranks g.T.BiHashItem g.T.K1.PartialEq.eq g.T.K2.PartialEq.eq)
    (AreLawful-ranks g.T.BiHashItem g.met.T.K1.Eq.laws g.met.T.K2.Eq.laws) g.T.PartialEq.eq g.met.T.PartialEq.laws (bag c.args.right.now)
    (bag c.args.left.now) ∙ sym c.eq.ensures.eq ∙ c.if-eq.false) refl
