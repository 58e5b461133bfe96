use Rattle.std.proofs.Common.{◌≡◌, ◌∙◌, Some, refl, sym, ap, arith}
use Rattle.iddqd_order.specs.Row.{line}
use Rattle.iddqd_sorted.specs.Items.{by_sort, with_item}
use Rattle.iddqd_sorted.proofs.Changed.{level_back}
use Rattle.iddqd_sorted.proofs.Exchanged.{others_items, written_updates, written_live, written_many, free_written}
use Rattle.iddqd_sorted.proofs.Keyed.{any_none, any_some, maps_none, maps_some, only_none, only_some, others_some}
use Rattle.iddqd_sorted.proofs.Listed.{long}
use Rattle.iddqd_sorted.proofs.Sorting.{total}
use Rattle.iddqd_sorted.proofs.map.Sorted.update_by.Goals as goal

pub returns-in_default-clause-any_found : goal.returns-in_default-clause-any_found
returns-in_default-clause-any_found g c =
    let all = total g.M.Item.Sortable.sort_key g.met.M.Item.SortKey.Ord.total g.M.SlotMap.first_key g.met.M.FirstKey.Ord.total in
    rw (← c.self.view_is) (any_none all g.M.Item.Sortable.sort_key (g.M.SlotMap.shown c.self.inside.map).slots (line c.self.inside.order.blocks) c.self.invariant _ c.in_default.ensures.found)

pub returns-in_default-clause-maps : goal.returns-in_default-clause-maps
returns-in_default-clause-maps g c =
    let all = total g.M.Item.Sortable.sort_key g.met.M.Item.SortKey.Ord.total g.M.SlotMap.first_key g.met.M.FirstKey.Ord.total in
    rw (← c.self.view_is) (maps_none _ _ _ _ _ (only_none all g.M.Item.Sortable.sort_key (g.M.SlotMap.shown c.self.inside.map).slots (line c.self.inside.order.blocks) c.self.invariant _ c.in_default.ensures.found))

pub f-d-requires : goal.f-d-requires
f-d-requires g c =
    let all = total g.M.Item.Sortable.sort_key g.met.M.Item.SortKey.Ord.total g.M.SlotMap.first_key g.met.M.FirstKey.Ord.total in
    let x = c.item-2.result.now in
    let there = rw c.slots-2.ensures at c.item-2.ensures in
    c.requires.takes x (rw (← c.self.view_is) (only_some all g.M.Item.Sortable.sort_key (g.M.SlotMap.shown c.self.inside.map).slots (line c.self.inside.order.blocks) c.self.invariant _ _ c.in-Some.ensures.found x there)) c.item-2.result refl

pub resettle_changed-requires-clause-live : goal.resettle_changed-requires-clause-live
resettle_changed-requires-clause-live g c =
    let there = rw c.slots-2.ensures at c.item-2.ensures in
    written_live (g.M.SlotMap.shown c.self.inside.map) (g.M.SlotMap.shown c.store_at.new.self) _ (λ z. g.M.StoresData.put z c.f-d.result) c.item-2.result.now there c.store_at.ensures.stores

pub resettle_changed-requires-clause-lists : goal.resettle_changed-requires-clause-lists
resettle_changed-requires-clause-lists g c =
    let x = c.item-2.result.now in
    let y = g.M.StoresData.put x c.f-d.result in
    let key = g.M.SlotMap.first_key in
    let there = rw c.slots-2.ensures at c.item-2.ensures in
    let first = rw c.slots.ensures at c.item.ensures in
    let one : Some c.item.result.now ≡ Some x = sym first ∙ there in
    let same : c.item.result.now ≡ x = cc one in
    record {
      old = (g.M.SlotMap.shown c.self.inside.map).slots;
      item = x;
      now = y;
      listed = c.self.invariant;
      had = there;
      updates = written_updates (g.M.SlotMap.shown c.self.inside.map) (g.M.SlotMap.shown c.store_at.new.self) _ (λ z. g.M.StoresData.put z c.f-d.result) x there c.store_at.ensures.stores;
      many = written_many (g.M.SlotMap.shown c.self.inside.map) (g.M.SlotMap.shown c.store_at.new.self) _ (λ z. g.M.StoresData.put z c.f-d.result) x there c.store_at.ensures.stores;
      keyed = c.sort_key-before.ensures ∙ ap g.M.Item.Sortable.sort_key same;
      level = level_back g.met.M.FirstKey.Ord.total (key y) (key x) (sym (g.met.M.FirstKey.Ord.matches_eq (key y) (key x)) ∙ c.requires.first_key x c.f-d.result);
    }

pub resettle_changed-requires-clause-free : goal.resettle_changed-requires-clause-free
resettle_changed-requires-clause-free g c =
    let there = rw c.slots-2.ensures at c.item-2.ensures in
    free_written (g.M.SlotMap.shown c.self.inside.map) (g.M.SlotMap.shown c.store_at.new.self) _ (λ z. g.M.StoresData.put z c.f-d.result) c.item-2.result.now there c.store_at.ensures.stores g.M.SlotMap.ranks g.met.M.SlotMap.lawful c.store_at.ensures.sound (g.met.M.StoresData.keeps_keys c.item-2.result.now c.f-d.result)

pub invariant_of-self : goal.invariant_of-self
invariant_of-self g c = c.resettle_changed.ensures.settles.settles.listed

pub returns-clause-any_found : goal.returns-clause-any_found
returns-clause-any_found g c =
    let all = total g.M.Item.Sortable.sort_key g.met.M.Item.SortKey.Ord.total g.M.SlotMap.first_key g.met.M.FirstKey.Ord.total in
    rw (← c.self.view_is) (any_some all g.M.Item.Sortable.sort_key (g.M.SlotMap.shown c.self.inside.map).slots (line c.self.inside.order.blocks) c.self.invariant _ _ c.in-Some.ensures.found)

pub returns-clause-stores : goal.returns-clause-stores
returns-clause-stores g c = λ _.
    (let all = total g.M.Item.Sortable.sort_key g.met.M.Item.SortKey.Ord.total g.M.SlotMap.first_key g.met.M.FirstKey.Ord.total in
    let slots = (g.M.SlotMap.shown c.self.inside.map).slots in
    let es = line c.self.inside.order.blocks in
    let x = c.item-2.result.now in
    let y = g.M.StoresData.put x c.f-d.result in
    let there = rw c.slots-2.ensures at c.item-2.ensures in
    let at = c.resettle_changed.ensures.settles in
    let p = at.place in
    let updates = written_updates (g.M.SlotMap.shown c.self.inside.map) (g.M.SlotMap.shown c.store_at.new.self) _ (λ z. g.M.StoresData.put z c.f-d.result) c.item-2.result.now there c.store_at.ensures.stores in
    let left = others_items all g.M.Item.Sortable.sort_key slots es c.self.invariant _ x p at.within at.at_slot (g.M.SlotMap.shown c.store_at.new.self).slots y updates (written_many (g.M.SlotMap.shown c.self.inside.map) (g.M.SlotMap.shown c.store_at.new.self) _ (λ z. g.M.StoresData.put z c.f-d.result) c.item-2.result.now there c.store_at.ensures.stores) in
    let others = others_some all g.M.Item.Sortable.sort_key slots es c.self.invariant _ _ c.in-Some.ensures.found x there p at.within at.at_slot in
    rw (← c.self.view_is) (record {
      item = x;
      stored = c.f-d.result;
      only = only_some all g.M.Item.Sortable.sort_key slots es c.self.invariant _ _ c.in-Some.ensures.found x there;
      answered = (c.item-2.result, c.f-d.ensures, refl);
      lists = c.resettle_changed.ensures.settles.settles.items y updates.changed ∙ ap (λ l. with_item (by_sort g.M.Item.Sortable.sort_key g.M.Item.SortKey.Ord.cmp g.M.SlotMap.first_key g.M.FirstKey.Ord.cmp) l y) (left ∙ others);
    }))

pub returns-clause-maps : goal.returns-clause-maps
returns-clause-maps g c = maps_some _ _ _ _ _ _ (returns-clause-stores g c refl)

pub returns-clause-asked : goal.returns-clause-asked
returns-clause-asked g c = λ r few.
    (let all = total g.M.Item.Sortable.sort_key g.met.M.Item.SortKey.Ord.total g.M.SlotMap.first_key g.met.M.FirstKey.Ord.total in
    let few_items = rw (← c.self.view_is) at few in
    let entries = long all g.M.Item.Sortable.sort_key (g.M.SlotMap.shown c.self.inside.map).slots (line c.self.inside.order.blocks) c.self.invariant in
    omega (arith, c.resettle_changed.ensures.asked r (omega (arith, entries, few_items))))

pub returns-clause-asked_once : goal.returns-clause-asked_once
returns-clause-asked_once g c = λ stays.
    (let all = total g.M.Item.Sortable.sort_key g.met.M.Item.SortKey.Ord.total g.M.SlotMap.first_key g.met.M.FirstKey.Ord.total in
    let x = c.item-2.result.now in
    let there = rw c.slots-2.ensures at c.item-2.ensures in
    let first = rw c.slots.ensures at c.item.ensures in
    let one : Some c.item.result.now ≡ Some x = sym first ∙ there in
    let same : c.item.result.now ≡ x = cc one in
    let updates = written_updates (g.M.SlotMap.shown c.self.inside.map) (g.M.SlotMap.shown c.store_at.new.self) _ (λ z. g.M.StoresData.put z c.f-d.result) x there c.store_at.ensures.stores in
    let tie = stays x c.f-d.result (rw (← c.self.view_is) (only_some all g.M.Item.Sortable.sort_key (g.M.SlotMap.shown c.self.inside.map).slots (line c.self.inside.order.blocks) c.self.invariant _ _ c.in-Some.ensures.found x there)) (c.item-2.result, c.f-d.ensures, refl) in
    c.resettle_changed.ensures.asked_once (g.M.StoresData.put x c.f-d.result) updates.changed
    (ap (λ z. g.M.Item.SortKey.Ord.cmp z (g.M.Item.Sortable.sort_key (g.M.StoresData.put x c.f-d.result))) (c.sort_key-before.ensures ∙ ap g.M.Item.Sortable.sort_key same) ∙ tie))
