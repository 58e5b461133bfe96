use Rattle.std.proofs.Common.{◌≡◌, ◌+◌, ◌-◌, ◌∙◌, Some, ap, sym, subst, length, arith}
use Rattle.std.specs.Prelude.{slice_get}
use Rattle.std.proofs.lemmas.Option.{slice_get-get_or}
use Rattle.iddqd_order.specs.Row.{line, position}
use Rattle.iddqd_sorted.specs.Items.{SortedValue, items}
use Rattle.iddqd_sorted.proofs.Listed.{long}
use Rattle.iddqd_sorted.proofs.Sorting.{total}
use Rattle.iddqd_sorted.proofs.map.Sorted.last.Goals as goal

pub returns-clause-item : goal.returns-clause-item
returns-clause-item g c =
    let m = c.args.self.now in
    let x = c.item_in.result.now in
    let p = position m.blocks c.in_ok-place.place in
    let entries : length (items m) ≡ length (line m.blocks) = rw (← c.self.view_is) (long (total g.M.Item.Sortable.sort_key g.met.M.Item.SortKey.Ord.total g.M.SlotMap.first_key g.met.M.FirstKey.Ord.total) g.M.Item.Sortable.sort_key (g.M.SlotMap.shown c.self.inside.map).slots (line c.self.inside.order.blocks) c.self.invariant) in
    let end = subst (λ (n : SortedValue g.row.M-Item.Denot g.row.M-Item-SortKey.Denot g.row.M-Builder.Denot). position n.blocks c.in_ok-place.place + 1 ≡ length (line n.blocks)) c.self.view_is c.in_ok-place.ensures.index in
    let at : p ≡ length (items m) - 1 = omega (arith, entries, end) in
    ap Some (c.item_in.ensures.item x) ∙ sym (slice_get-get_or (items m) p x c.item_in.ensures.within) ∙ ap (slice_get (items m)) at
