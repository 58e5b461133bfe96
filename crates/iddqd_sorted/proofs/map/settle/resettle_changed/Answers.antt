use Rattle.std.proofs.Common.{◌≡◌, ◌∙◌, Some, sym, ap}
use Rattle.iddqd_order.specs.Row.{line, position}
use Rattle.iddqd_sorted.proofs.Changed.{others_changed, resettled_kept}
use Rattle.iddqd_sorted.proofs.map.settle.resettle_changed.Goals as goal

pub resettle-requires-clause-others : goal.resettle-requires-clause-others
resettle-requires-clause-others g c =
    let at = c.place_before_change-place.ensures in
    others_changed g.M.Item.Sortable.sort_key g.met.M.Item.SortKey.Ord.total g.M.SlotMap.first_key g.met.M.FirstKey.Ord.total (g.M.SlotMap.shown c.args.map.now).slots c.args.slot c.args.before (line c.args.order.now.blocks) c.requires.lists (position c.args.order.now.blocks c.place_before_change-place.result) at.within at.slot

pub returns-in-Equal-clause-settles : goal.returns-in-Equal-clause-settles
returns-in-Equal-clause-settles g c =
    let there = rw c.slots.ensures at c.item.ensures in
    let one : Some c.item.result.now ≡ Some c.requires.lists.now = sym there ∙ c.requires.lists.updates.changed in
    let same : c.item.result.now ≡ c.requires.lists.now = cc one in
    resettled_kept g.M.Item.Sortable.sort_key g.met.M.Item.SortKey.Ord.total g.M.SlotMap.first_key g.met.M.FirstKey.Ord.total (g.M.SlotMap.shown c.args.map.now).slots c.args.slot c.args.before (line c.args.order.now.blocks) c.requires.lists
    (ap (λ z. g.M.Item.SortKey.Ord.cmp c.args.before (g.M.Item.Sortable.sort_key z)) (sym same) ∙ ap (g.M.Item.SortKey.Ord.cmp c.args.before) (sym c.sort_key-after.ensures) ∙ sym c.cmp.ensures ∙ c.in-Equal.is)

pub returns-clause-settles : goal.returns-clause-settles
returns-clause-settles g c =
    let at = c.place_before_change-place.ensures in
    record {
      place = position c.args.order.now.blocks c.place_before_change-place.result;
      within = at.within;
      at_slot = at.slot;
      settles = c.resettle.ensures.settles;
    }
