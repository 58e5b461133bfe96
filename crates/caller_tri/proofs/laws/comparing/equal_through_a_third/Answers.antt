-- Made by tests/widths from crates/caller_bi/proofs/laws/comparing/equal_through_a_third/Answers.antt: change that file.
use Rattle.std.proofs.Common.{sym, ◌∙◌}
use Rattle.iddqd_tri.specs.Keys.{ranks}
use Rattle.iddqd_tri.specs.Map.{bag}
use Rattle.iddqd_tri.proofs.CallerLemmas.Laws.{equal-trans}
use Rattle.iddqd_tri.proofs.MapLemmas.{AreLawful-ranks}
use Rattle.caller_tri.proofs.laws.comparing.equal_through_a_third.Goals as goal

pub returns-then-eq-2 : goal.returns-then-eq-2
returns-then-eq-2 g c =
    c.eq-then-eq-2.ensures.eq
    ∙ equal-trans (ranks g.T.TriHashItem g.T.K1.PartialEq.eq g.T.K2.PartialEq.eq g.T.K3.PartialEq.eq)
    (AreLawful-ranks g.T.TriHashItem g.met.T.K1.Eq.laws g.met.T.K2.Eq.laws g.met.T.K3.Eq.laws) g.T.PartialEq.eq g.met.T.PartialEq.laws (bag c.args.first.now)
    (bag c.args.second.now) (bag c.args.third.now) (sym c.eq.ensures.eq ∙ c.if-eq.true) (sym c.eq-then-eq.ensures.eq ∙ c.if-eq-2.true)
