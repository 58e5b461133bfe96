use Rattle.std.proofs.Common.{◌≡◌, true, refl, sym, ◌∙◌}
use Rattle.std.specs.Prelude.{false, [], ◌∷◌}
use Rattle.iddqd_bi.specs.Keys.{has1, has2}
use Rattle.iddqd_bi.specs.Map.{bag}
use Rattle.iddqd_bi.proofs.CallerLemmas.Laws.{given-unique, none-unique}
use Rattle.caller_bi.proofs.laws.finding.unique_where_both.Goals as goal

-- the item of the first key is that of both keys, if it has the second one
pub returns-then-stands_for : goal.returns-then-stands_for
returns-then-stands_for g c =
    let has : g.Q2.Query.stands_for c.args.query2 (g.T.BiHashItem.key2 c.in-Some.item.now) ≡ true = rw (← c.key2.ensures) (sym c.stands_for.ensures ∙ c.if-stands_for.true) in
    c.is_some-given.ensures ∙ given-unique (has1 g.T.BiHashItem g.Q1.Query.stands_for c.args.query1)
    (has2 g.T.BiHashItem g.Q2.Query.stands_for c.args.query2 ∷ [])
    (bag c.args.map.now) c.in-Some.item.now c.get_unique.result c.in-Some.ensures c.get_unique.ensures ∙ rw has refl

pub returns-else-stands_for : goal.returns-else-stands_for
returns-else-stands_for g c =
    let has : g.Q2.Query.stands_for c.args.query2 (g.T.BiHashItem.key2 c.in-Some.item.now) ≡ false = rw (← c.key2.ensures) (sym c.stands_for.ensures ∙ c.if-stands_for.false) in
    let no : c.is_some-given.result ≡ false = c.is_some-given.ensures
    ∙ given-unique (has1 g.T.BiHashItem g.Q1.Query.stands_for c.args.query1) (has2 g.T.BiHashItem g.Q2.Query.stands_for c.args.query2 ∷ [])
    (bag c.args.map.now) c.in-Some.item.now c.get_unique.result c.in-Some.ensures c.get_unique.ensures ∙ rw has refl in
    rw no refl

-- if no item has the first key, none has all keys
pub returns-in-None : goal.returns-in-None
returns-in-None g c =
    rw (c.is_some-given.ensures ∙ none-unique (has1 g.T.BiHashItem g.Q1.Query.stands_for c.args.query1) (has2 g.T.BiHashItem g.Q2.Query.stands_for
    c.args.query2 ∷ []) (bag c.args.map.now) c.get_unique.result c.in-None.ensures c.get_unique.ensures) refl
