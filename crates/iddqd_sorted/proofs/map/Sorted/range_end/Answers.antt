use Rattle.std.proofs.Common.{◌≡◌, length, subst, arith}
use Rattle.iddqd_order.specs.Row.{line, position}
use Rattle.iddqd_sorted.specs.Items.{SortedValue, items}
use Rattle.iddqd_sorted.proofs.Listed.{long}
use Rattle.iddqd_order.proofs.StartLemmas.{IsStartOf-end}
use Rattle.iddqd_sorted.proofs.Sorting.{total}
use Rattle.iddqd_sorted.proofs.map.Sorted.range_end.Goals as goal

pub returns-in-Unbounded-clause-starts : goal.returns-in-Unbounded-clause-starts
returns-in-Unbounded-clause-starts g c =
    let m = c.args.self.now in
    let entries : length (items m) ≡ length (line m.blocks) = rw (← c.self.view_is) (long (total g.M.Item.Sortable.sort_key g.met.M.Item.SortKey.Ord.total g.M.SlotMap.first_key g.met.M.FirstKey.Ord.total) g.M.Item.Sortable.sort_key (g.M.SlotMap.shown c.self.inside.map).slots (line c.self.inside.order.blocks) c.self.invariant) in
    let last = subst (λ (n : SortedValue g.row.M-Item.Denot g.row.M-Item-SortKey.Denot g.row.M-Builder.Denot). position n.blocks c.end.result ≡ length (line n.blocks)) c.self.view_is c.end.ensures.last in
    rw c.in-Unbounded.is (IsStartOf-end (items m) (position m.blocks c.end.result) (omega (arith, entries, last)))
