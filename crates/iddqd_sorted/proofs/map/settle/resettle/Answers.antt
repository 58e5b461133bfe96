use Rattle.std.proofs.Common.{sym, ap, length, arith}
use Rattle.std.specs.List.{remove}
use Rattle.std.proofs.lemmas.List.Edits.{length-remove}
use Rattle.iddqd_order.specs.Row.{line, position}
use Rattle.iddqd_order.proofs.PlaceLemmas.{position-below}
use Rattle.iddqd_sorted.proofs.Staying.{set-moved}
use Rattle.iddqd_sorted.proofs.Settling.{live_seen, settled, other_searchable, other_gap}
use Rattle.iddqd_sorted.proofs.Sorting.{total}
use Rattle.iddqd_sorted.proofs.map.settle.resettle.Goals as goal

pub stays_in-requires-clause-asks : goal.stays_in-requires-clause-asks
stays_in-requires-clause-asks g c =
    let all = total g.M.Item.Sortable.sort_key g.met.M.Item.SortKey.Ord.total g.M.SlotMap.first_key g.met.M.FirstKey.Ord.total in
    rw c.slots-2.ensures (live_seen all g.M.Item.Sortable.sort_key (g.M.SlotMap.shown c.args.map.now).slots c.args.slot c.item-item.result.now (rw c.slots.ensures at c.item-item.ensures) (remove (line c.args.order.now.blocks) (position c.args.order.now.blocks c.args.place)) c.requires.others)

pub stays_in-requires-clause-ordered : goal.stays_in-requires-clause-ordered
stays_in-requires-clause-ordered g c =
    other_searchable g.M.Item.Sortable.sort_key g.met.M.Item.SortKey.Ord.total g.M.SlotMap.first_key g.met.M.FirstKey.Ord.total (g.M.SlotMap.shown c.args.map.now).slots c.args.slot c.item-item.result.now (rw c.slots.ensures at c.item-item.ensures) (remove (line c.args.order.now.blocks) (position c.args.order.now.blocks c.args.place)) c.requires.others _ c.slots-2.ensures _ c.sort_key-sort_key.ensures _ c.first_key.ensures

pub returns-then-stays_in-clause-settles : goal.returns-then-stays_in-clause-settles
returns-then-stays_in-clause-settles g c =
    let all = total g.M.Item.Sortable.sort_key g.met.M.Item.SortKey.Ord.total g.M.SlotMap.first_key g.met.M.FirstKey.Ord.total in
    let slots = (g.M.SlotMap.shown c.args.map.now).slots in
    let blocks = c.args.order.now.blocks in
    let p = position blocks c.args.place in
    let es = remove (line blocks) p in
    let x = c.item-item.result.now in
    let there = rw c.slots.ensures at c.item-item.ensures in
    let gap = other_gap g.M.Item.Sortable.sort_key g.met.M.Item.SortKey.Ord.total g.M.SlotMap.first_key g.met.M.FirstKey.Ord.total slots c.args.slot x there es c.requires.others _ c.slots-2.ensures _ c.sort_key-sort_key.ensures _ c.first_key.ensures p (c.stays_in.ensures.gap c.if-stays_in.true) in
    rw (c.replace.ensures.entries, set-moved (line blocks) p (record { sort_key = c.sort_key-sort_key.result; slot = c.args.slot }) (position-below blocks c.args.place c.requires.entry))
    (settled all g.M.Item.Sortable.sort_key slots c.args.slot x there es c.requires.others c.sort_key-sort_key.result (sym c.sort_key-sort_key.ensures) p gap)

pub settle-requires-clause-others : goal.settle-requires-clause-others
settle-requires-clause-others g c = rw c.remove.ensures.rest c.requires.others

pub settle-requires-clause-room : goal.settle-requires-clause-room
settle-requires-clause-room g c =
    let blocks = c.args.order.now.blocks in
    omega (arith, ap length c.remove.ensures.rest, length-remove (line blocks) (position blocks c.args.place) (position-below blocks c.args.place c.requires.entry), c.requires.fits, c.remove.ensures.capacity)

pub returns-clause-settles : goal.returns-clause-settles
returns-clause-settles g c = rw c.remove.ensures.rest at c.settle.ensures.settles

pub returns-clause-asked : goal.returns-clause-asked
returns-clause-asked g c = λ r few.
    (let blocks = c.args.order.now.blocks in
    omega (arith, c.settle.ensures.asked r (omega (arith, ap length c.remove.ensures.rest, length-remove (line blocks) (position blocks c.args.place) (position-below blocks c.args.place c.requires.entry), few)), c.stays_in.ensures.asked))
