use Rattle.std.proofs.Common.{◌∙◌, ap, rules}
use Rattle.iddqd_store.specs.Slots.{contents}
use Rattle.iddqd_store.proofs.CallerLemmas.Visits.{HasVisited-none, HasVisited-more, HasVisited-all}
use Rattle.iddqd_store.proofs.collection.AnyCollection.visit_each.Goals as goal

pub loop-item-init : goal.loop-item-init
loop-item-init g c = HasVisited-none g.V.Visitor.visits _ _ _ (c.into_iter-item-iterator.ensures.into_iter_gives ∙ c.values-item-items.ensures.gives ∙ ap contents c.slots.ensures)

pub loop-item-preserved : goal.loop-item-preserved
loop-item-preserved g c = HasVisited-more g.V.Visitor.visits _ _ _ c.in-Some.item.now _ _ _ c.loop-item.invariant (search rules) c.in_ok-visit.ensures

pub returns : goal.returns
returns g c = HasVisited-all g.V.Visitor.visits _ _ _ _ c.loop-item.invariant (search rules)
