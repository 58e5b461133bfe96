-- Written by hand; tests/one_key.patch says why.
use Rattle.std.proofs.Common.{rules, arith, ap, sym, ◌∙◌, ◌≡◌, ◌≢◌, ◌≤◌, ◌+◌, ◌∷◌, [], ℕ, length}
use Rattle.iddqd_store.specs.Rank.{walks_within}
use Rattle.iddqd_store.specs.Map.{bag}
use Rattle.iddqd_store.proofs.MapLemmas.Blocking.{none_else, other_conflicts, some_found}
use Rattle.iddqd_store.proofs.MapLemmas.Rekeyed.{free_slot}
use Rattle.iddqd_store.proofs.RankLemmas.Placing.{placing}
use Rattle.std.proofs.lemmas.Grind.{common_steps}
use Rattle.iddqd_id.specs.Keys.{ranks}
use Rattle.iddqd_id.proofs.FoundLemmas.{no_slot, one_slot}
use Rattle.iddqd_id.proofs.map.IdHashMap.rekey_at.Goals as goal

pub rekey_into-requires-clause-free : goal.rekey_into-requires-clause-free
rekey_into-requires-clause-free g c =
    let ranks = ranks g.T.IdHashItem g.T.Key.PartialEq.eq in
    free_slot ranks c.args.self.now.slots c.args.slot c.args.item c.requires c.in-Vacant.ensures.free

pub unreachable-requires : goal.unreachable-requires
unreachable-requires g c = some_found c.in-Found.ensures.conflict (no_slot (sym c.in_default.ensures))

pub returns-then-ne-clause-reason : goal.returns-then-ne-clause-reason
returns-then-ne-clause-reason g c =
    let apart : c.in-Some.other ≢ c.args.slot = λ same. search rules in
    other_conflicts c.in-Found.ensures.conflict (one_slot (sym c.in-Some.ensures)) apart

pub overwrite_one-requires-clause-free : goal.overwrite_one-requires-clause-free
overwrite_one-requires-clause-free g c =
    let same : c.in-Some.other ≡ c.args.slot = search rules in
    none_else c.in-Found.ensures.conflict (one_slot (sym c.in-Some.ensures) ∙ ap (λ (a : ℕ). a ∷ []) same)

pub returns-in-Vacant-clause-costs : goal.returns-in-Vacant-clause-costs
returns-in-Vacant-clause-costs g c =
    let rest : c.rekey_into.new.meter ≤ c.costs.inside.probed + walks_within (length (bag c.args.self.now)) (2 ∷ []) = grind (arith, common_steps) in
    placing _ _ (rw (← c.costs.view_is) at c.places.ensures.costs) rest

pub returns-then-ne-clause-costs : goal.returns-then-ne-clause-costs
returns-then-ne-clause-costs g c = placing _ _ c.places.ensures.costs (omega arith)

pub returns-clause-costs : goal.returns-clause-costs
returns-clause-costs g c =
    let rest : c.overwrite_one.new.meter ≤ c.costs.inside.probed + walks_within (length (bag c.args.self.now)) (2 ∷ []) = grind (arith, common_steps) in
    placing _ _ (rw (← c.costs.view_is) at c.places.ensures.costs) rest
