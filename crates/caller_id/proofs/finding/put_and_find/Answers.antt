-- Made by tests/widths from crates/caller_bi/proofs/finding/put_and_find/Answers.antt: change that file.
use Rattle.std.proofs.Common.{◌∙◌}
use Rattle.std.specs.Prelude.{[]}
use Rattle.iddqd_id.specs.Bag.{tests_of, remainder}
use Rattle.iddqd_id.specs.Map.{bag}
use Rattle.iddqd_id.specs.Rank.{agree}
use Rattle.iddqd_id.proofs.CallerLemmas.{NamesOne-query, contains-inserted}
use Rattle.iddqd_id.specs.Keys.{ranks, has}
use Rattle.caller_id.proofs.finding.put_and_find.Goals as goal

-- the item that was inserted is found by its key
pub returns-in-Ok : goal.returns-in-Ok
returns-in-Ok g c =
    let eq = g.T.Key.PartialEq.eq in
    let ranks = ranks g.T.IdHashItem g.T.Key.PartialEq.eq in
    c.contains_key.ensures
    ∙ contains-inserted [] [] (agree g.T.IdHashItem.key eq)
    (has g.T.IdHashItem eq c.args.key.now) (NamesOne-query eq eq g.T.IdHashItem.key g.met.T.Key.Eq.laws.congr c.args.key.now)
    (bag c.insert_overwrite.new.self) c.len-len.ensures.sound
    (remainder (tests_of ranks c.args.item) (bag c.args.map.now)) c.args.item c.in-Ok.ensures.overwrites.items c.requires.has
