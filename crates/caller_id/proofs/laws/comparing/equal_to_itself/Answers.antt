-- Made by tests/widths from crates/caller_bi/proofs/laws/comparing/equal_to_itself/Answers.antt: change that file.
use Rattle.std.proofs.Common.{◌∙◌}
use Rattle.iddqd_id.specs.Keys.{ranks}
use Rattle.iddqd_id.specs.Map.{bag}
use Rattle.iddqd_id.proofs.CallerLemmas.Laws.{equal-refl}
use Rattle.iddqd_id.proofs.MapLemmas.{AreLawful-ranks}
use Rattle.caller_id.proofs.laws.comparing.equal_to_itself.Goals as goal

pub returns : goal.returns
returns g c = c.eq.ensures.eq ∙ equal-refl (ranks g.T.IdHashItem g.T.Key.PartialEq.eq)
    (AreLawful-ranks g.T.IdHashItem g.met.T.Key.Eq.laws) g.T.PartialEq.eq g.met.T.Eq.laws (bag c.args.map.now)
