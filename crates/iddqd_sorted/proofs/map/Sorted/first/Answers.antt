use Rattle.std.proofs.Common.{◌≡◌, Some, ap, sym, subst, ◌∙◌}
use Rattle.std.specs.Prelude.{slice_get}
use Rattle.std.proofs.lemmas.Option.{slice_get-get_or}
use Rattle.iddqd_order.specs.Row.{position}
use Rattle.iddqd_sorted.specs.Items.{SortedValue, items}
use Rattle.iddqd_sorted.proofs.map.Sorted.first.Goals as goal

pub returns-clause-item : goal.returns-clause-item
returns-clause-item g c =
    let m = c.args.self.now in
    let x = c.item_in.result.now in
    let at = subst (λ (n : SortedValue g.row.M-Item.Denot g.row.M-Item-SortKey.Denot g.row.M-Builder.Denot). position n.blocks c.in_ok-place.place ≡ 0) c.self.view_is c.in_ok-place.ensures.index in
    ap Some (c.item_in.ensures.item x) ∙ sym (slice_get-get_or (items m) (position m.blocks c.in_ok-place.place) x c.item_in.ensures.within) ∙ ap (slice_get (items m)) at
