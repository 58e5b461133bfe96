use Rattle.iddqd_order.specs.Row.{line, position}
use Rattle.iddqd_order.proofs.PlaceLemmas.{position-below}
use Rattle.iddqd_sorted.proofs.Listed.{long, item_read}
use Rattle.iddqd_sorted.proofs.Sorting.{total}
use Rattle.iddqd_sorted.proofs.map.Sorted.item_in.Goals as goal

pub item-requires : goal.item-requires
item-requires g c =
    let blocks = c.self.inside.order.blocks in
    let has = rw (← c.self.view_is) at c.requires in
    let e = c.entry_in.result.now in
    rw (c.slots.ensures, c.entry_in.ensures.value e) (c.self.invariant.live (position blocks c.args.place) e (position-below blocks c.args.place has))

pub returns-clause-item : goal.returns-clause-item
returns-clause-item g c =
    let blocks = c.self.inside.order.blocks in
    let has = rw (← c.self.view_is) at c.requires in
    let e = c.entry_in.result.now in
    rw (← c.self.view_is) (λ d. item_read (total g.M.Item.Sortable.sort_key g.met.M.Item.SortKey.Ord.total g.M.SlotMap.first_key g.met.M.FirstKey.Ord.total) g.M.Item.Sortable.sort_key (g.M.SlotMap.shown c.self.inside.map).slots (line c.self.inside.order.blocks) c.self.invariant (position blocks c.args.place) e _ d (position-below blocks c.args.place has) (c.entry_in.ensures.value e) (rw c.slots.ensures at c.item.ensures))

pub returns-clause-within : goal.returns-clause-within
returns-clause-within g c =
    let blocks = c.self.inside.order.blocks in
    let has = rw (← c.self.view_is) at c.requires in
    rw (← c.self.view_is, long (total g.M.Item.Sortable.sort_key g.met.M.Item.SortKey.Ord.total g.M.SlotMap.first_key g.met.M.FirstKey.Ord.total) g.M.Item.Sortable.sort_key (g.M.SlotMap.shown c.self.inside.map).slots (line c.self.inside.order.blocks) c.self.invariant) (position-below blocks c.args.place has)
