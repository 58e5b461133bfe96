-- Made by tests/widths from crates/caller_bi/proofs/laws/finding/found1_where_contained/Answers.antt: change that file.
use Rattle.std.proofs.Common.{refl, ◌∙◌}
use Rattle.iddqd_tri.specs.Keys.{has1}
use Rattle.iddqd_tri.specs.Map.{bag}
use Rattle.iddqd_tri.proofs.CallerLemmas.Laws.{given-has, given-listed, none-listed}
use Rattle.caller_tri.proofs.laws.finding.found1_where_contained.Goals as goal

-- an item that is given has the key
pub returns-then-contains_key1 : goal.returns-then-contains_key1
returns-then-contains_key1 g c =
    c.stands_for.ensures ∙ rw c.key1.ensures (given-has (has1 g.T.TriHashItem g.Q.Query.stands_for c.args.query) (bag c.args.map.now) c.in-Some.item.now c.in-Some.ensures)

pub returns-else-contains_key1 : goal.returns-else-contains_key1
returns-else-contains_key1 g c =
    c.contains_key1.ensures ∙ given-listed (has1 g.T.TriHashItem g.Q.Query.stands_for c.args.query) (bag c.args.map.now) c.in-Some.item.now c.in-Some.ensures

-- if none is given, no item has the key
pub returns-in-None : goal.returns-in-None
returns-in-None g c =
    rw (c.contains_key1-in-None.ensures ∙ none-listed (has1 g.T.TriHashItem g.Q.Query.stands_for c.args.query) (bag c.args.map.now) c.in-None.ensures) refl
