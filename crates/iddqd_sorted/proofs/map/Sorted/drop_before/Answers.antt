use Rattle.std.proofs.Common.{ap, sym, ◌∙◌}
use Rattle.iddqd_sorted.specs.Items.{items}
use Rattle.iddqd_sorted.proofs.Sorting.{all_at_least}
use Rattle.iddqd_sorted.proofs.map.Sorted.drop_before.Goals as goal

pub returns-clause-rest : goal.returns-clause-rest
returns-clause-rest g c =
    ap items c.in_default.ensures.unchanged
    ∙ sym (all_at_least (λ x. g.M.Item.SortKey.Ord.cmp (g.M.Item.Sortable.sort_key x) c.args.bound.now) (items c.loop-gone.self) c.in_default.ensures.none)
    ∙ c.loop-gone.invariant.rest
