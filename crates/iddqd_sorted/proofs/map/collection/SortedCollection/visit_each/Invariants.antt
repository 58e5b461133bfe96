use Rattle.iddqd_sorted.specs.Items.{items}
use Rattle.iddqd_store.proofs.CallerLemmas.Visits.{HasVisited}
use Rattle.iddqd_sorted.proofs.map.collection.SortedCollection.visit_each.Given as goal

-- the items so far were visited
abbrev pub invariant-loop-item : goal.invariant-loop-item
invariant-loop-item g l = HasVisited g.V.Visitor.visits (items l.self) l.item-iterator l.initial.target l.target
