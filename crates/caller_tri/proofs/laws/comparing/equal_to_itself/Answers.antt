-- Made by tests/widths from crates/caller_bi/proofs/laws/comparing/equal_to_itself/Answers.antt: change that file.
use Rattle.std.proofs.Common.{◌∙◌}
use Rattle.iddqd_tri.specs.Keys.{ranks}
use Rattle.iddqd_tri.specs.Map.{bag}
use Rattle.iddqd_tri.proofs.CallerLemmas.Laws.{equal-refl}
use Rattle.iddqd_tri.proofs.MapLemmas.{AreLawful-ranks}
use Rattle.caller_tri.proofs.laws.comparing.equal_to_itself.Goals as goal

pub returns : goal.returns
returns g c = c.eq.ensures.eq ∙ equal-refl (ranks g.T.TriHashItem g.T.K1.PartialEq.eq g.T.K2.PartialEq.eq g.T.K3.PartialEq.eq)
    (AreLawful-ranks g.T.TriHashItem g.met.T.K1.Eq.laws g.met.T.K2.Eq.laws g.met.T.K3.Eq.laws) g.T.PartialEq.eq g.met.T.Eq.laws (bag c.args.map.now)
