-- Made by tests/widths from crates/iddqd_bi/proofs/map/BiHashMap/rekey_at/Answers.antt: change that file.
use Rattle.std.proofs.Common.{arith, ap, rules, ◌∙◌, ◌≡◌, ◌≢◌, ◌≤◌, ◌+◌, ◌∷◌, [], length, sym}
use Rattle.std.proofs.lemmas.Grind.{common_steps}
use Rattle.iddqd_store.specs.Map.{bag}
use Rattle.iddqd_store.specs.Rank.{walks_within}
use Rattle.iddqd_store.proofs.MapLemmas.Rekeyed.{free_slot}
use Rattle.iddqd_tri.specs.Keys.{ranks}
use Rattle.iddqd_store.proofs.MapLemmas.Blocking.{none_else, other_conflicts, second_conflicts, some_found}
use Rattle.iddqd_store.proofs.RankLemmas.Placing.{placing}
use Rattle.iddqd_tri.proofs.map.TriHashMap.rekey_at.Goals as goal

pub rekey_into-requires-clause-free : goal.rekey_into-requires-clause-free
rekey_into-requires-clause-free g c =
    free_slot (ranks g.T.TriHashItem g.T.K1.PartialEq.eq g.T.K2.PartialEq.eq g.T.K3.PartialEq.eq) c.args.self.now.slots c.args.slot c.args.item c.requires c.in-Vacant.ensures.free

pub unreachable-requires : goal.unreachable-requires
unreachable-requires g c =
    let found = sym (rw (c.slot.ensures, c.slot-2.ensures, c.slot-3.ensures) at c.each_once-slots.ensures) in
    some_found c.in-Found.ensures.conflict (ap length (found ∙ c.in_default.ensures.rest ∙ c.in_default.ensures.end))

pub returns-then-ne-clause-reason : goal.returns-then-ne-clause-reason
returns-then-ne-clause-reason g c =
    let found = sym (rw (c.slot.ensures, c.slot-2.ensures, c.slot-3.ensures) at c.each_once-slots.ensures) in
    let apart : c.in-Some.other ≢ c.args.slot = λ same. search rules in
    other_conflicts c.in-Found.ensures.conflict (found ∙ c.in-Some.ensures.rest) apart

pub overwrite_one-requires-clause-free : goal.overwrite_one-requires-clause-free
overwrite_one-requires-clause-free g c =
    let found = sym (rw (c.slot.ensures, c.slot-2.ensures, c.slot-3.ensures) at c.each_once-slots.ensures) in
    let same : c.in-Some.other ≡ c.args.slot = search rules in
    let only = rw (c.in-None.ensures.rest, c.in-None.ensures.end, same) at c.in-Some.ensures.rest in
    none_else c.in-Found.ensures.conflict (found ∙ only)

pub returns-in-Some-pop_front-clause-reason : goal.returns-in-Some-pop_front-clause-reason
returns-in-Some-pop_front-clause-reason g c =
    let found = sym (rw (c.slot.ensures, c.slot-2.ensures, c.slot-3.ensures) at c.each_once-slots.ensures) in
    let same : c.in-Some.other ≡ c.args.slot = search rules in
    let both = rw (c.in-Some-pop_front.ensures.rest, same) at c.in-Some.ensures.rest in
    second_conflicts c.in-Found.ensures.conflict (found ∙ both)

pub returns-in-Vacant-clause-costs : goal.returns-in-Vacant-clause-costs
returns-in-Vacant-clause-costs g c =
    let rest : c.rekey_into.new.meter ≤ c.costs.inside.probed + walks_within (length (bag c.args.self.now)) (2 ∷ 2 ∷ 2 ∷ []) = grind (arith, common_steps) in
    placing _ _ (rw (← c.costs.view_is) at c.places.ensures.costs) rest

pub returns-then-ne-clause-costs : goal.returns-then-ne-clause-costs
returns-then-ne-clause-costs g c = placing _ _ c.places.ensures.costs (omega arith)

pub returns-in-Some-pop_front-clause-costs : goal.returns-in-Some-pop_front-clause-costs
returns-in-Some-pop_front-clause-costs g c = placing _ _ c.places.ensures.costs (omega arith)

pub returns-in-None-clause-costs : goal.returns-in-None-clause-costs
returns-in-None-clause-costs g c =
    let rest : c.overwrite_one.new.meter ≤ c.costs.inside.probed + walks_within (length (bag c.args.self.now)) (2 ∷ 2 ∷ 2 ∷ []) = grind (arith, common_steps) in
    placing _ _ (rw (← c.costs.view_is) at c.places.ensures.costs) rest
