-- Made by tests/widths from crates/iddqd_bi/proofs/map/BiHashMap/slot_unique/Answers.antt: change that file.
use Rattle.std.proofs.Common.{arith, sym, ap, ◌∙◌, [], ◌∷◌}
use Rattle.iddqd_store.specs.Slots.{get}
use Rattle.iddqd_store.specs.Map.{Map, bag}
use Rattle.iddqd_store.proofs.BagLemmas.Unique.{all_of-none, all_of-kept, all_of-lost}
use Rattle.iddqd_store.proofs.RankLemmas.Costs.{SearchCosts-room}
use Rattle.iddqd_tri.proofs.map.TriHashMap.slot_unique.Goals as goal

pub returns-in_default-clause-found : goal.returns-in_default-clause-found
returns-in_default-clause-found g c =
    let slots = c.by_key1.ensures.slots in
    let test1 = λ (x : g.row.T.Denot). g.Q1.Query.stands_for c.args.query1 (g.T.TriHashItem.key1 x) in
    let test2 = λ (x : g.row.T.Denot). g.Q2.Query.stands_for c.args.query2 (g.T.TriHashItem.key2 x) in
    let test3 = λ (x : g.row.T.Denot). g.Q3.Query.stands_for c.args.query3 (g.T.TriHashItem.key3 x) in
    all_of-none test1 (test2 ∷ test3 ∷ []) (bag c.args.self.now) (rw slots at c.in_default.ensures.found.only)

pub returns-then-has_others-clause-found : goal.returns-then-has_others-clause-found
returns-then-has_others-clause-found g c =
    let slots = c.by_key1.ensures.slots in
    let test1 = λ (x : g.row.T.Denot). g.Q1.Query.stands_for c.args.query1 (g.T.TriHashItem.key1 x) in
    let test2 = λ (x : g.row.T.Denot). g.Q2.Query.stands_for c.args.query2 (g.T.TriHashItem.key2 x) in
    let test3 = λ (x : g.row.T.Denot). g.Q3.Query.stands_for c.args.query3 (g.T.TriHashItem.key3 x) in
    all_of-kept test1 (test2 ∷ test3 ∷ []) (bag c.args.self.now) _ c.in_ok-item.item.now
    (sym (c.in_ok-item.ensures ∙ ap (λ (m : Map g.row.T.Denot g.row.S.Denot). get m.slots c.in-Found.slot) c.self.view_is)) (rw slots at c.in-Found.ensures.found.only)
    (sym c.has_others.ensures.value ∙ c.if-has_others.true)

pub returns-else-has_others-clause-found : goal.returns-else-has_others-clause-found
returns-else-has_others-clause-found g c =
    let slots = c.by_key1.ensures.slots in
    let test1 = λ (x : g.row.T.Denot). g.Q1.Query.stands_for c.args.query1 (g.T.TriHashItem.key1 x) in
    let test2 = λ (x : g.row.T.Denot). g.Q2.Query.stands_for c.args.query2 (g.T.TriHashItem.key2 x) in
    let test3 = λ (x : g.row.T.Denot). g.Q3.Query.stands_for c.args.query3 (g.T.TriHashItem.key3 x) in
    all_of-lost test1 (test2 ∷ test3 ∷ []) (bag c.args.self.now) _ c.in_ok-item.item.now
    (sym (c.in_ok-item.ensures ∙ ap (λ (m : Map g.row.T.Denot g.row.S.Denot). get m.slots c.in-Found.slot) c.self.view_is)) (rw slots at c.in-Found.ensures.found.only)
    (sym c.has_others.ensures.value ∙ c.if-has_others.false)

pub returns-in_default-clause-costs : goal.returns-in_default-clause-costs
returns-in_default-clause-costs g c =
    let first = rw (c.by_key1.ensures.slots, c.by_key1.ensures.builder) at (SearchCosts-room c.args.self.now.capacity c.by_key1.ensures.room c.search.ensures.costs) in
    record { answer = _; between = c.search.new.costs.asked; search = first; rest = omega (arith) }

pub returns-in_err-item-clause-costs : goal.returns-in_err-item-clause-costs
returns-in_err-item-clause-costs g c =
    let first = rw (c.by_key1.ensures.slots, c.by_key1.ensures.builder) at (SearchCosts-room c.args.self.now.capacity c.by_key1.ensures.room c.search.ensures.costs) in
    record { answer = _; between = c.search.new.costs.asked; search = first; rest = omega (arith) }

pub returns-then-has_others-clause-costs : goal.returns-then-has_others-clause-costs
returns-then-has_others-clause-costs g c =
    let first = rw (c.by_key1.ensures.slots, c.by_key1.ensures.builder) at (SearchCosts-room c.args.self.now.capacity c.by_key1.ensures.room c.search.ensures.costs) in
    record { answer = _; between = c.search.new.costs.asked; search = rw (← c.has_others.ensures.probed) at first; rest = omega (arith, c.has_others.ensures.asked) }

pub returns-else-has_others-clause-costs : goal.returns-else-has_others-clause-costs
returns-else-has_others-clause-costs g c =
    let first = rw (c.by_key1.ensures.slots, c.by_key1.ensures.builder) at (SearchCosts-room c.args.self.now.capacity c.by_key1.ensures.room c.search.ensures.costs) in
    record { answer = _; between = c.search.new.costs.asked; search = rw (← c.has_others.ensures.probed) at first; rest = omega (arith, c.has_others.ensures.asked) }
