use Rattle.std.proofs.Common.{◌≡◌, ◌+◌, None, subst, arith}
use Rattle.std.proofs.lemmas.List.Sorted.{length_permutation}
use Rattle.iddqd_store.specs.Slots.{Updates, live_count}
use Rattle.iddqd_store.proofs.SlotLemmas.Contents.{length-contents}
use Rattle.iddqd_order.specs.Row.{line, position}
use Rattle.iddqd_order.proofs.PlaceLemmas.{position-below}
use Rattle.iddqd_sorted.proofs.Listed.{long, counted-items, item_read, items-removed, IsListed-removed}
use Rattle.iddqd_sorted.proofs.Sorting.{total}
use Rattle.iddqd_sorted.proofs.map.Sorted.remove_in.Goals as goal

pub remove_at-gone-requires : goal.remove_at-gone-requires
remove_at-gone-requires g c =
    let blocks = c.self.inside.order.blocks in
    let has = rw (← c.self.view_is) at c.requires in
    let e = c.entry_in.result.now in
    rw (c.entry_in.ensures.value e) (c.self.invariant.live (position blocks c.args.place) e (position-below blocks c.args.place has))

pub invariant_of-self : goal.invariant_of-self
invariant_of-self g c =
    let slots = (g.M.SlotMap.shown c.self.inside.map).slots in
    let blocks = c.self.inside.order.blocks in
    let has = rw (← c.self.view_is) at c.requires in
    let e = c.entry_in.result.now in
    let new = (g.M.SlotMap.shown c.remove_at-gone.new.self).slots in
    let updates = subst (λ d. Updates slots new d.slot None) (c.entry_in.ensures.value e) c.remove_at-gone.ensures.updates in
    let fewer : live_count new + 1 ≡ live_count slots = omega (arith, length_permutation _ _ c.remove_at-gone.ensures.loses.items, length-contents slots, length-contents new) in
    rw c.remove.ensures.rest (IsListed-removed (total g.M.Item.Sortable.sort_key g.met.M.Item.SortKey.Ord.total g.M.SlotMap.first_key g.met.M.FirstKey.Ord.total) g.M.Item.Sortable.sort_key (g.M.SlotMap.shown c.self.inside.map).slots (line c.self.inside.order.blocks) c.self.invariant new (position blocks c.args.place) e (position-below blocks c.args.place has) updates fewer)

pub returns-clause-item : goal.returns-clause-item
returns-clause-item g c =
    let blocks = c.self.inside.order.blocks in
    let has = rw (← c.self.view_is) at c.requires in
    let e = c.entry_in.result.now in
    rw (← c.self.view_is) (λ d. item_read (total g.M.Item.Sortable.sort_key g.met.M.Item.SortKey.Ord.total g.M.SlotMap.first_key g.met.M.FirstKey.Ord.total) g.M.Item.Sortable.sort_key (g.M.SlotMap.shown c.self.inside.map).slots (line c.self.inside.order.blocks) c.self.invariant (position blocks c.args.place) e _ d (position-below blocks c.args.place has) (c.entry_in.ensures.value e) c.remove_at-gone.ensures.value)

pub returns-clause-within : goal.returns-clause-within
returns-clause-within g c =
    let blocks = c.self.inside.order.blocks in
    let has = rw (← c.self.view_is) at c.requires in
    rw (← c.self.view_is, long (total g.M.Item.Sortable.sort_key g.met.M.Item.SortKey.Ord.total g.M.SlotMap.first_key g.met.M.FirstKey.Ord.total) g.M.Item.Sortable.sort_key (g.M.SlotMap.shown c.self.inside.map).slots (line c.self.inside.order.blocks) c.self.invariant) (position-below blocks c.args.place has)

pub returns-clause-rest : goal.returns-clause-rest
returns-clause-rest g c =
    let slots = (g.M.SlotMap.shown c.self.inside.map).slots in
    let blocks = c.self.inside.order.blocks in
    let has = rw (← c.self.view_is) at c.requires in
    let e = c.entry_in.result.now in
    let new = (g.M.SlotMap.shown c.remove_at-gone.new.self).slots in
    let updates = subst (λ d. Updates slots new d.slot None) (c.entry_in.ensures.value e) c.remove_at-gone.ensures.updates in
    rw (c.remove.ensures.rest, ← c.self.view_is) (items-removed (total g.M.Item.Sortable.sort_key g.met.M.Item.SortKey.Ord.total g.M.SlotMap.first_key g.met.M.FirstKey.Ord.total) g.M.Item.Sortable.sort_key (g.M.SlotMap.shown c.self.inside.map).slots (line c.self.inside.order.blocks) c.self.invariant new (position blocks c.args.place) e (position-below blocks c.args.place has) updates)

pub returns-clause-probed : goal.returns-clause-probed
returns-clause-probed g c =
    rw (← c.self.view_is, counted-items (total g.M.Item.Sortable.sort_key g.met.M.Item.SortKey.Ord.total g.M.SlotMap.first_key g.met.M.FirstKey.Ord.total) g.M.Item.Sortable.sort_key (g.M.SlotMap.shown c.self.inside.map).slots (line c.self.inside.order.blocks) c.self.invariant) c.remove_at-gone.ensures.costs

pub returns-clause-index : goal.returns-clause-index
returns-clause-index g c = rw (← c.self.view_is) c.remove.ensures.index
