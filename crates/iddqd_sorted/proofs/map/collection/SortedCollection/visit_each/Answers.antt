use Rattle.std.proofs.Common.{◌∙◌, rules}
use Rattle.iddqd_store.proofs.CallerLemmas.Visits.{HasVisited-none, HasVisited-more, HasVisited-all}
use Rattle.iddqd_sorted.proofs.map.collection.SortedCollection.visit_each.Goals as goal

pub loop-item-init : goal.loop-item-init
loop-item-init g c = HasVisited-none g.V.Visitor.visits _ _ _ (c.into_iter-item-iterator.ensures.into_iter_gives ∙ c.iter-item-items.ensures.gives)

pub loop-item-preserved : goal.loop-item-preserved
loop-item-preserved g c = HasVisited-more g.V.Visitor.visits _ _ _ c.in-Some.item.now _ _ _ c.loop-item.invariant (search rules) c.in_ok-visit.ensures

pub returns : goal.returns
returns g c = HasVisited-all g.V.Visitor.visits _ _ _ _ c.loop-item.invariant (search rules)
