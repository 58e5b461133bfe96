-- Made by tests/widths from crates/caller_bi/proofs/laws/finding/found1_where_contained/Answers.antt: change that file.
use Rattle.std.proofs.Common.{refl, ◌∙◌}
use Rattle.iddqd_id.specs.Keys.{has}
use Rattle.iddqd_id.specs.Map.{bag}
use Rattle.iddqd_id.proofs.CallerLemmas.Laws.{given-has, given-listed, none-listed}
use Rattle.caller_id.proofs.laws.finding.found_where_contained.Goals as goal

-- an item that is given has the key
pub returns-then-contains_key : goal.returns-then-contains_key
returns-then-contains_key g c =
    c.stands_for.ensures ∙ rw c.key.ensures (given-has (has g.T.IdHashItem g.Q.Query.stands_for c.args.query) (bag c.args.map.now) c.in-Some.item.now c.in-Some.ensures)

pub returns-else-contains_key : goal.returns-else-contains_key
returns-else-contains_key g c =
    c.contains_key.ensures ∙ given-listed (has g.T.IdHashItem g.Q.Query.stands_for c.args.query) (bag c.args.map.now) c.in-Some.item.now c.in-Some.ensures

-- if none is given, no item has the key
pub returns-in-None : goal.returns-in-None
returns-in-None g c =
    rw (c.contains_key-in-None.ensures ∙ none-listed (has g.T.IdHashItem g.Q.Query.stands_for c.args.query) (bag c.args.map.now) c.in-None.ensures) refl
