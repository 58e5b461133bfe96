-- Made by tests/widths from crates/caller_bi/proofs/finding/remove_and_find/Answers.antt: change that file.
use Rattle.std.proofs.Common.{◌∙◌}
use Rattle.std.specs.Prelude.{[]}
use Rattle.iddqd_id.specs.Map.{bag}
use Rattle.iddqd_id.specs.Rank.{agree}
use Rattle.iddqd_id.proofs.CallerLemmas.{NamesOne-query, contains-removed}
use Rattle.iddqd_id.proofs.MapLemmas.{AreLawful-ranks}
use Rattle.iddqd_id.specs.Keys.{has}
use Rattle.caller_id.proofs.finding.remove_and_find.Goals as goal

-- no item has the key any more
pub returns : goal.returns
returns g c =
    let eq = g.T.Key.PartialEq.eq in
    c.contains_key.ensures
    ∙ contains-removed [] [] (agree g.T.IdHashItem.key eq)
    (AreLawful-ranks g.T.IdHashItem g.met.T.Key.Eq.laws)
    (has g.T.IdHashItem eq c.args.key.now) (NamesOne-query eq eq g.T.IdHashItem.key g.met.T.Key.Eq.laws.congr c.args.key.now)
    (bag c.args.map.now) (bag c.remove.new.self) c.remove.result c.len-len.ensures.sound c.remove.ensures.taken c.remove.ensures.loses.items
