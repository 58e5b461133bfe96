-- Made by tests/widths from crates/iddqd_bi/proofs/map/BiHashMap/contains_key_unique/Answers.antt: change that file.
use Rattle.std.proofs.Common.{◌∙◌, [], ◌∷◌}
use Rattle.iddqd_store.specs.Bag.{every_of}
use Rattle.iddqd_store.specs.Map.{bag}
use Rattle.iddqd_store.proofs.BagLemmas.Unique.{is_some-found}
use Rattle.iddqd_tri.proofs.map.TriHashMap.contains_key_unique.Goals as goal

pub returns : goal.returns
returns g c =
    let test1 = λ (x : g.row.T.Denot). g.Q1.Query.stands_for c.args.query1 (g.T.TriHashItem.key1 x) in
    let test2 = λ (x : g.row.T.Denot). g.Q2.Query.stands_for c.args.query2 (g.T.TriHashItem.key2 x) in
    let test3 = λ (x : g.row.T.Denot). g.Q3.Query.stands_for c.args.query3 (g.T.TriHashItem.key3 x) in
    c.is_some.ensures ∙ is_some-found (every_of (test1 ∷ test2 ∷ test3 ∷ [])) (bag c.args.self.now) c.get_unique.result c.get_unique.ensures
