use Rattle.iddqd_store.specs.Map.{bag}
use Rattle.iddqd_store.proofs.CallerLemmas.Visits.{HasVisited}
use Rattle.iddqd_store.proofs.collection.AnyCollection.visit_each.Given as goal

-- the items so far were visited
abbrev pub invariant-loop-item : goal.invariant-loop-item
invariant-loop-item g l = HasVisited g.V.Visitor.visits (bag (g.M.SlotMap.shown l.self)) l.item-iterator l.initial.target l.target
