use Rattle.std.proofs.Common.{◌≡◌, ap, arith, length, ◌∙◌}
use Rattle.std.specs.Prelude.{min}
use Rattle.std.proofs.lemmas.List.Edits.{length-remove}
use Rattle.std.proofs.lemmas.List.Sorted.{length_permutation}
use Rattle.iddqd_store.specs.Slots.{contents}
use Rattle.iddqd_store.proofs.SlotLemmas.Contents.{contents-take, length-contents}
use Rattle.iddqd_order.specs.Row.{line, position}
use Rattle.iddqd_sorted.proofs.Exchanged.{others_left, free_taken}
use Rattle.iddqd_sorted.proofs.Listed.{IsPermutation-listed}
use Rattle.iddqd_sorted.proofs.Sorting.{total}
use Rattle.iddqd_sorted.proofs.map.Sorted.overwrite_slot.Goals as goal

pub settle-requires-clause-others : goal.settle-requires-clause-others
settle-requires-clause-others g c =
    let all = total g.M.Item.Sortable.sort_key g.met.M.Item.SortKey.Ord.total g.M.SlotMap.first_key g.met.M.FirstKey.Ord.total in
    let slots = (g.M.SlotMap.shown c.self.inside.map).slots in
    let new = (g.M.SlotMap.shown c.overwrite_at-gone.new.self).slots in
    let at = c.place_of_slot-place.ensures in
    let put = c.overwrite_at-gone.ensures in
    let many : length (contents new) ≡ length (contents slots) = omega (arith, length_permutation _ _ put.puts_at.items, length_permutation _ _ (contents-take slots _ c.overwrite_at-gone.result put.value)) in
    rw c.remove.ensures.rest (others_left all g.M.Item.Sortable.sort_key slots (line c.self.inside.order.blocks) c.self.invariant _ c.overwrite_at-gone.result _ at.within at.slot new c.args.item put.updates many)

pub settle-requires-clause-free : goal.settle-requires-clause-free
settle-requires-clause-free g c = λ x is.
    free_taken g.M.SlotMap.ranks g.met.M.SlotMap.lawful (g.M.SlotMap.shown c.overwrite_at-gone.new.self).slots _ x is c.overwrite_at-gone.ensures.puts_at.sound

pub settle-requires-clause-room : goal.settle-requires-clause-room
settle-requires-clause-room g c =
    let blocks = c.self.inside.order.blocks in
    let at = c.place_of_slot-place.ensures in
    omega (arith, ap length c.remove.ensures.rest, length-remove (line blocks) (position blocks c.place_of_slot-place.result) at.within, at.within, at.fits, c.remove.ensures.capacity)

pub invariant_of-self : goal.invariant_of-self
invariant_of-self g c = c.settle.ensures.settles.listed

pub returns-clause-puts_at : goal.returns-clause-puts_at
returns-clause-puts_at g c =
    let slots = (g.M.SlotMap.shown c.self.inside.map).slots in
    let new = (g.M.SlotMap.shown c.overwrite_at-gone.new.self).slots in
    let put = c.overwrite_at-gone.ensures.puts_at in
    let many : length (contents new) ≡ length (contents slots) = omega (arith, length_permutation _ _ put.items, length_permutation _ _ (contents-take slots _ c.overwrite_at-gone.result c.overwrite_at-gone.ensures.value)) in
    let room = c.settle.ensures.capacity ∙ c.remove.ensures.capacity in
    rw (← c.self.view_is) record {
      at = put.at;
      items = put.items;
      sound = put.sound;
      fits = omega (arith, put.fits, many, length-contents slots, c.self.invariant.counted, c.place_of_slot-place.ensures.fits, room);
      same_room = λ t. min (put.same_room t) (room t);
      same_builder = put.same_builder;
    }

pub returns-clause-listed : goal.returns-clause-listed
returns-clause-listed g c =
    let all = total g.M.Item.Sortable.sort_key g.met.M.Item.SortKey.Ord.total g.M.SlotMap.first_key g.met.M.FirstKey.Ord.total in
    IsPermutation-listed all g.M.Item.Sortable.sort_key (g.M.SlotMap.shown c.overwrite_at-gone.new.self).slots (line c.settle.new.order.blocks) c.settle.ensures.settles.listed

pub returns-clause-ascending : goal.returns-clause-ascending
returns-clause-ascending g c = c.settle.ensures.settles.listed.ascending

pub returns-clause-asked : goal.returns-clause-asked
returns-clause-asked g c = λ r few.
    (let few_slots = rw (← c.self.view_is) at few in
    let blocks = c.self.inside.order.blocks in
    let count = length-contents (g.M.SlotMap.shown c.self.inside.map).slots in
    let at = c.place_of_slot-place.ensures in
    let first = at.asked r (omega (arith, c.self.invariant.counted, count, few_slots)) in
    let fewer = length-remove (line blocks) (position blocks c.place_of_slot-place.result) at.within in
    let second = c.settle.ensures.asked r (omega (arith, ap length c.remove.ensures.rest, fewer, c.self.invariant.counted, count, few_slots)) in
    omega (arith, first, second))
