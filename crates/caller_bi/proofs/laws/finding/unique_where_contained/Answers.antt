use Rattle.std.proofs.Common.{◌≡◌, refl, sym, ◌∙◌}
use Rattle.std.specs.Prelude.{false}
use Rattle.iddqd_bi.specs.Keys.{has_both}
use Rattle.iddqd_bi.specs.Map.{bag}
use Rattle.iddqd_bi.proofs.CallerLemmas.Laws.{given-some}
use Rattle.caller_bi.proofs.laws.finding.unique_where_contained.Goals as goal

-- both say whether a member has the keys
pub returns-then-contains_key_unique : goal.returns-then-contains_key_unique
returns-then-contains_key_unique g c =
    c.is_some-given.ensures ∙ given-some (has_both g.T.BiHashItem g.Q1.Query.stands_for g.Q2.Query.stands_for c.args.query1 c.args.query2)
    (bag c.args.map.now) c.get_unique.result c.get_unique.ensures ∙ sym c.contains_key_unique.ensures ∙ c.if-contains_key_unique.true

pub returns-else-contains_key_unique : goal.returns-else-contains_key_unique
returns-else-contains_key_unique g c =
    let no : c.is_some-given.result ≡ false = c.is_some-given.ensures
    ∙ given-some (has_both g.T.BiHashItem g.Q1.Query.stands_for g.Q2.Query.stands_for c.args.query1 c.args.query2)
    (bag c.args.map.now) c.get_unique.result c.get_unique.ensures ∙ sym c.contains_key_unique.ensures ∙ c.if-contains_key_unique.false in
    rw no refl
