use Rattle.std.proofs.Common.{◌≡◌, length}
use Rattle.std.specs.Prelude.{filter}
use Rattle.std.specs.Ordering.{is_ge}
use Rattle.iddqd_sorted.specs.Items.{items}
use Rattle.iddqd_sorted.proofs.map.Sorted.drop_before.Given as goal

abbrev pub invariant-loop-gone : goal.invariant-loop-gone
invariant-loop-gone g l = record {
  rest : filter (λ x. is_ge (g.M.Item.SortKey.Ord.cmp (g.M.Item.Sortable.sort_key x) l.bound)) (items l.self) ≡ filter (λ x. is_ge (g.M.Item.SortKey.Ord.cmp (g.M.Item.Sortable.sort_key x) l.bound)) (items l.fn.self);
  capacity : l.self.capacity ≡ l.fn.self.capacity;
  builder : l.self.builder ≡ l.fn.self.builder;
}

abbrev pub decreases-loop-gone : goal.decreases-loop-gone
decreases-loop-gone g l = length (items l.self)
