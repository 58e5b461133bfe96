-- Written by hand; tests/three_keys.patch says why.
use Rattle.std.proofs.Common.{◌≡◌, true, refl, sym, ◌∙◌}
use Rattle.std.specs.Prelude.{false, [], ◌∷◌}
use Rattle.iddqd_tri.specs.Keys.{has1, has2, has3}
use Rattle.iddqd_tri.specs.Map.{bag}
use Rattle.iddqd_tri.proofs.CallerLemmas.Laws.{given-unique, none-unique}
use Rattle.caller_tri.proofs.laws.finding.unique_where_all.Goals as goal

-- the item of the first key is that of all keys, if it has the others
pub returns-then-stands_for-2 : goal.returns-then-stands_for-2
returns-then-stands_for-2 g c =
    let first = has1 g.T.TriHashItem g.Q1.Query.stands_for c.args.query1 in
    let others = has2 g.T.TriHashItem g.Q2.Query.stands_for c.args.query2 ∷ has3 g.T.TriHashItem g.Q3.Query.stands_for c.args.query3 ∷ [] in
    let second : g.Q2.Query.stands_for c.args.query2 (g.T.TriHashItem.key2 c.in-Some.item.now) ≡ true = rw (← c.key2.ensures) (sym c.stands_for.ensures ∙ c.if-stands_for.true) in
    let third : g.Q3.Query.stands_for c.args.query3 (g.T.TriHashItem.key3 c.in-Some.item.now) ≡ true = rw (← c.key3.ensures) (sym c.stands_for-then-stands_for.ensures ∙ c.if-stands_for-2.true) in
    c.is_some-given.ensures ∙ given-unique first others (bag c.args.map.now) c.in-Some.item.now c.get_unique.result c.in-Some.ensures c.get_unique.ensures ∙ rw (second, third) refl

pub returns-then-stands_for : goal.returns-then-stands_for
returns-then-stands_for g c =
    let first = has1 g.T.TriHashItem g.Q1.Query.stands_for c.args.query1 in
    let others = has2 g.T.TriHashItem g.Q2.Query.stands_for c.args.query2 ∷ has3 g.T.TriHashItem g.Q3.Query.stands_for c.args.query3 ∷ [] in
    let second : g.Q2.Query.stands_for c.args.query2 (g.T.TriHashItem.key2 c.in-Some.item.now) ≡ true = rw (← c.key2.ensures) (sym c.stands_for.ensures ∙ c.if-stands_for.true) in
    let third : g.Q3.Query.stands_for c.args.query3 (g.T.TriHashItem.key3 c.in-Some.item.now) ≡ false = rw (← c.key3.ensures) (sym c.stands_for-then-stands_for.ensures ∙ c.if-stands_for-2.false) in
    let no : c.is_some-given.result ≡ false = c.is_some-given.ensures ∙ given-unique first others
    (bag c.args.map.now) c.in-Some.item.now c.get_unique.result c.in-Some.ensures c.get_unique.ensures ∙ rw (second, third) refl in
    rw no refl

pub returns-else-stands_for : goal.returns-else-stands_for
returns-else-stands_for g c =
    let first = has1 g.T.TriHashItem g.Q1.Query.stands_for c.args.query1 in
    let others = has2 g.T.TriHashItem g.Q2.Query.stands_for c.args.query2 ∷ has3 g.T.TriHashItem g.Q3.Query.stands_for c.args.query3 ∷ [] in
    let second : g.Q2.Query.stands_for c.args.query2 (g.T.TriHashItem.key2 c.in-Some.item.now) ≡ false = rw (← c.key2.ensures) (sym c.stands_for.ensures ∙ c.if-stands_for.false) in
    let no : c.is_some-given.result ≡ false = c.is_some-given.ensures
    ∙ given-unique first others (bag c.args.map.now) c.in-Some.item.now c.get_unique.result c.in-Some.ensures c.get_unique.ensures ∙ rw second refl in
    rw no refl

-- if no item has the first key, none has all keys
pub returns-in-None : goal.returns-in-None
returns-in-None g c =
    rw (c.is_some-given.ensures ∙ none-unique (has1 g.T.TriHashItem g.Q1.Query.stands_for c.args.query1)
    (has2 g.T.TriHashItem g.Q2.Query.stands_for c.args.query2 ∷ has3 g.T.TriHashItem g.Q3.Query.stands_for c.args.query3 ∷ [])
    (bag c.args.map.now) c.get_unique.result c.in-None.ensures c.get_unique.ensures) refl
