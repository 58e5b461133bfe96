use Rattle.std.proofs.Common.{◌∙◌, [], ap, arith, length, refl, rules}
use Rattle.std.proofs.lemmas.List.Sorted.{IsPermutation-refl, length_permutation}
use Rattle.iddqd_store.specs.Map.{bag}
use Rattle.iddqd_store.proofs.BagLemmas.Building.{AddsTo-push, HasPlaceFor-free, RefusesFor-found}
use Rattle.iddqd_store.proofs.MapLemmas.Places.{stand_in}
use Rattle.iddqd_bi.proofs.MapLemmas.{AreLawful-are}
use Rattle.iddqd_bi.proofs.map.BiHashMap.from_iter_unique.Goals as goal

pub loop-item-init : goal.loop-item-init
loop-item-init g c = record {
  callable = search rules;
  ending = search rules;
  added = ([], refl, rw (c.grow.ensures.slots, c.default-map.ensures.empty) (IsPermutation-refl []));
  most = omega (arith, c.grow.ensures.room.most, c.at_once.ensures.most, ap length c.default-map.ensures.empty, c.default-map.ensures.capacity);
  builder = rw c.grow.ensures.room.same_builder c.default-map.ensures.builder;
}

pub loop-item-preserved : goal.loop-item-preserved
loop-item-preserved g c =
    let put = c.in-Ok.ensures in
    record {
      callable = search rules;
      ending = search rules;
      added = AddsTo-push g.T.Ranked.ranks [] (bag c.loop-item.map) (bag c.insert_or_refuse.new.self) c.loop-item.yielded c.in-Some.item
          c.loop-item.invariant.added (rw g.met.T.Ranked.ranks_are put.free) put.gains.items;
      most = omega (arith, c.loop-item.invariant.most, put.gains.most, length_permutation _ _ put.gains.items);
      builder = rw put.gains.same_builder c.loop-item.invariant.builder;
    }

pub returns-in-Err-Memory-clause-refused : goal.returns-in-Err-Memory-clause-refused
returns-in-Err-Memory-clause-refused g c =
    let arm = c.in-Err-Memory in
    let full = rw arm.field-0-is at arm.ensures.reason in
    let item = rw arm.field-0-is at arm.ensures.handed_back in
    let place = HasPlaceFor-free g.T.Ranked.ranks (bag c.loop-item.map) c.loop-item.yielded c.in-Some.item c.loop-item.invariant.added (rw g.met.T.Ranked.ranks_are full.free) in
    rw item (c.into_iter-items.result, c.loop-item.yielded, c.next.new.self, search rules, search rules, place)

-- the slots that the searches found are those of the items that conflict
pub remove_slots-duplicates-requires : goal.remove_slots-duplicates-requires
remove_slots-duplicates-requires g c =
    let arm = c.in-Err-Duplicate in
    let why = rw arm.field-0-is at arm.ensures.reason in
    let stand = stand_in (rw (c.slot.ensures, c.slot-in-Err-Duplicate.ensures) at c.each_once-slots.ensures) why.conflict.found in
    record { live = rw arm.ensures.unchanged stand.live; apart = stand.apart }

pub returns-in-Err-Duplicate-clause-refused : goal.returns-in-Err-Duplicate-clause-refused
returns-in-Err-Duplicate-clause-refused g c =
    let arm = c.in-Err-Duplicate in
    let item = rw arm.field-0-is at arm.ensures.handed_back in
    let why = rw arm.field-0-is at (rw (← g.met.T.Ranked.ranks_are) at arm.ensures.reason) in
    let stand = stand_in (rw (c.slot.ensures, c.slot-in-Err-Duplicate.ensures) at c.each_once-slots.ensures) why.conflict.found in
    let listed = (rw arm.ensures.unchanged at c.remove_slots-duplicates.ensures.values) ∙ stand.items in
    let laws = AreLawful-are g.T.BiHashItem g.met.T.Ranked.ranks_are g.met.T.K1.Eq.laws g.met.T.K2.Eq.laws in
    let stopped = RefusesFor-found g.T.Ranked.ranks (bag c.loop-item.map) c.loop-item.yielded c.in-Some.item c.loop-item.invariant.added laws why.conflict.some in
    rw (c.new-in-Err-Duplicate.ensures, listed, item) (c.into_iter-items.result, c.loop-item.yielded, c.next.new.self, search rules, search rules, stopped)
