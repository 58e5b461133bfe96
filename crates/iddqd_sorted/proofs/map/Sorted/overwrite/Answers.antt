use Rattle.std.proofs.Common.{◌∙◌, None, ap, arith, sym, length}
use Rattle.std.specs.Prelude.{nat_eq, slice_set}
use Rattle.std.proofs.lemmas.List.Elements.{All-tail}
use Rattle.std.proofs.lemmas.Map.Keys.{IsDistinct-tail}
use Rattle.iddqd_store.specs.Slots.{IsLive, contents}
use Rattle.iddqd_store.proofs.MapLemmas.Places.{stand_as}
use Rattle.iddqd_sorted.specs.Items.{items}
use Rattle.iddqd_sorted.specs.Overwriting.{map_of}
use Rattle.iddqd_sorted.proofs.Overwriting.{AreHashed-left, all_displaced, as_many, fewer_left, gives_way, none_conflict, out, searches_both, still_live, walks_both}
use Rattle.iddqd_sorted.proofs.map.Sorted.overwrite.Goals as goal

-- at least one slot was found
pub unreachable-requires : goal.unreachable-requires
unreachable-requires g c =
    let none = c.in_default.ensures.rest ∙ c.in_default.ensures.end in
    let finds = c.requires.finds in
    let m = c.args.self.now in
    finds.conflict (none_conflict g.M.SlotMap.ranks (items m) c.args.item (sym finds.same_conflicts ∙ sym (stand_as finds.stand c.found_slots-slots.ensures none).items))

pub remove_slots-displaced-requires-clause-live : goal.remove_slots-displaced-requires-clause-live
remove_slots-displaced-requires-clause-live g c =
    let stand = stand_as c.requires.finds.stand c.found_slots-slots.ensures c.in-Some.ensures.rest in
    All-tail (IsLive c.args.self.now.slots) c.in-Some.slot _ stand.live

pub remove_slots-displaced-requires-clause-apart : goal.remove_slots-displaced-requires-clause-apart
remove_slots-displaced-requires-clause-apart g c =
    let stand = stand_as c.requires.finds.stand c.found_slots-slots.ensures c.in-Some.ensures.rest in
    IsDistinct-tail nat_eq c.in-Some.slot _ stand.apart

pub overwrite_slot-requires-clause-live : goal.overwrite_slot-requires-clause-live
overwrite_slot-requires-clause-live g c =
    let stand = stand_as c.requires.finds.stand c.found_slots-slots.ensures c.in-Some.ensures.rest in
    let less = c.remove_slots-displaced.ensures in
    still_live g.M.SlotMap.ranks (map_of c.args.self.now) (map_of c.remove_slots-displaced.new.self) c.args.item c.in-Some.slot _ c.remove_slots-displaced.result stand less.values less.loses (less.others c.in-Some.slot stand.apart)

pub overwrite_slot-requires-clause-free : goal.overwrite_slot-requires-clause-free
overwrite_slot-requires-clause-free g c =
    let stand = stand_as c.requires.finds.stand c.found_slots-slots.ensures c.in-Some.ensures.rest in
    let less = c.remove_slots-displaced.ensures in
    gives_way g.M.SlotMap.ranks (map_of c.args.self.now) (map_of c.remove_slots-displaced.new.self) c.args.item c.in-Some.slot _ c.remove_slots-displaced.result stand less.values less.loses (less.others c.in-Some.slot stand.apart)

pub overwrite_slot-requires-clause-hashes : goal.overwrite_slot-requires-clause-hashes
overwrite_slot-requires-clause-hashes g c = rw c.remove_slots-displaced.ensures.loses.same_builder c.requires.finds.hashes

pub overwrite_slot-requires-clause-hashed : goal.overwrite_slot-requires-clause-hashed
overwrite_slot-requires-clause-hashed g c =
    let less = c.remove_slots-displaced.ensures in
    rw less.loses.same_builder (AreHashed-left c.args.self.now.slots c.remove_slots-displaced.new.self.slots less.left (g.M.SlotMap.hashes c.args.self.now.builder) (g.M.SlotMap.searched c.args.found.now) c.requires.finds.hashed)

pub push_front-requires : goal.push_front-requires
push_front-requires g c = omega (arith, c.remove_slots-displaced.ensures.short, c.in-Some.ensures.fewer)

pub returns-clause-displaced : goal.returns-clause-displaced
returns-clause-displaced g c =
    let stand = stand_as c.requires.finds.stand c.found_slots-slots.ensures c.in-Some.ensures.rest in
    let less = c.remove_slots-displaced.ensures in
    c.push_front.ensures
    ∙ all_displaced g.M.SlotMap.ranks (map_of c.args.self.now) (map_of c.remove_slots-displaced.new.self) c.args.item c.in-Some.slot _ c.remove_slots-displaced.result stand less.values less.loses (less.others c.in-Some.slot stand.apart) c.overwrite_slot.result c.overwrite_slot.ensures.value

pub returns-clause-rest : goal.returns-clause-rest
returns-clause-rest g c =
    let stand = stand_as c.requires.finds.stand c.found_slots-slots.ensures c.in-Some.ensures.rest in
    let less = c.remove_slots-displaced.ensures in (
      contents (slice_set c.remove_slots-displaced.new.self.slots c.in-Some.slot None),
      out g.M.SlotMap.ranks (map_of c.args.self.now) (map_of c.remove_slots-displaced.new.self) c.args.item c.in-Some.slot _ c.remove_slots-displaced.result stand less.values less.loses (less.others c.in-Some.slot stand.apart) c.overwrite_slot.result c.overwrite_slot.ensures.value,
      c.overwrite_slot.ensures.puts_at.items,
    )

pub returns-clause-fits : goal.returns-clause-fits
returns-clause-fits g c = c.overwrite_slot.ensures.puts_at.fits

pub returns-clause-capacity : goal.returns-clause-capacity
returns-clause-capacity g c = c.overwrite_slot.ensures.puts_at.same_room ∙ c.remove_slots-displaced.ensures.loses.same_room

pub returns-clause-builder : goal.returns-clause-builder
returns-clause-builder g c = c.overwrite_slot.ensures.puts_at.same_builder ∙ c.remove_slots-displaced.ensures.loses.same_builder

pub returns-clause-asked : goal.returns-clause-asked
returns-clause-asked g c = λ r few.
    (let stand = stand_as c.requires.finds.stand c.found_slots-slots.ensures c.in-Some.ensures.rest in
    let less = c.remove_slots-displaced.ensures in
    let many = as_many g.M.SlotMap.ranks (map_of c.args.self.now) (map_of c.remove_slots-displaced.new.self) c.args.item c.in-Some.slot _ c.remove_slots-displaced.result stand less.values less.loses (less.others c.in-Some.slot stand.apart) in
    let fewer = fewer_left _ _ _ less.loses in
    searches_both _ _ r _ _ _ (omega (arith, ap length c.push_front.ensures, many)) (less.asked r few) (c.overwrite_slot.ensures.asked r (omega (arith, fewer, few))))

pub returns-clause-probed : goal.returns-clause-probed
returns-clause-probed g c =
    let stand = stand_as c.requires.finds.stand c.found_slots-slots.ensures c.in-Some.ensures.rest in
    let less = c.remove_slots-displaced.ensures in
    let many = as_many g.M.SlotMap.ranks (map_of c.args.self.now) (map_of c.remove_slots-displaced.new.self) c.args.item c.in-Some.slot _ c.remove_slots-displaced.result stand less.values less.loses (less.others c.in-Some.slot stand.apart) in
    walks_both g.M.SlotMap.ranks _ _ _ _ _ _ _ (fewer_left _ _ _ less.loses) (omega (arith, ap length c.push_front.ensures, many)) less.probed c.overwrite_slot.ensures.probed
