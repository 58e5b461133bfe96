-- Made by tests/widths from crates/iddqd_bi/proofs/map/BiHashMap/from_iter_unique/Answers.antt: change that file.
use Rattle.std.proofs.Common.{[], ap, arith, length, refl, rules, sym}
use Rattle.std.proofs.lemmas.List.Elements.{All-head}
use Rattle.std.proofs.lemmas.List.Sorted.{IsPermutation-refl, length_permutation}
use Rattle.iddqd_store.specs.Map.{bag}
use Rattle.iddqd_store.specs.Slots.{IsLive}
use Rattle.iddqd_store.proofs.BagLemmas.Building.{AddsTo-push, HasPlaceFor-free, RefusesFor-found}
use Rattle.iddqd_store.proofs.MapLemmas.Blocking.{some_found}
use Rattle.iddqd_store.proofs.MapLemmas.Places.{stand_in}
use Rattle.iddqd_id.proofs.FoundLemmas.{no_slot, one_slot}
use Rattle.iddqd_id.proofs.MapLemmas.{AreLawful-are}
use Rattle.iddqd_id.proofs.map.IdHashMap.from_iter_unique.Goals as goal

pub loop-item-init : goal.loop-item-init
loop-item-init g c = record {
  callable = search rules;
  ending = search rules;
  added = ([], refl, rw (c.grow.ensures.slots, c.default-map.ensures.empty) (IsPermutation-refl []));
  most = omega (arith, c.grow.ensures.room.most, c.at_once.ensures.most, ap length c.default-map.ensures.empty, c.default-map.ensures.capacity);
  builder = rw c.grow.ensures.room.same_builder c.default-map.ensures.builder;
}

pub loop-item-preserved : goal.loop-item-preserved
loop-item-preserved g c =
    let put = c.in-Ok.ensures in
    record {
      callable = search rules;
      ending = search rules;
      added = AddsTo-push g.T.Ranked.ranks [] (bag c.loop-item.map) (bag c.insert_or_refuse.new.self) c.loop-item.yielded c.in-Some.item
          c.loop-item.invariant.added (rw g.met.T.Ranked.ranks_are put.free) put.gains.items;
      most = omega (arith, c.loop-item.invariant.most, put.gains.most, length_permutation _ _ put.gains.items);
      builder = rw put.gains.same_builder c.loop-item.invariant.builder;
    }

pub returns-in-Err-Memory-clause-refused : goal.returns-in-Err-Memory-clause-refused
returns-in-Err-Memory-clause-refused g c =
    let arm = c.in-Err-Memory in
    let full = rw arm.field-0-is at arm.ensures.reason in
    let item = rw arm.field-0-is at arm.ensures.handed_back in
    let place = HasPlaceFor-free g.T.Ranked.ranks (bag c.loop-item.map) c.loop-item.yielded c.in-Some.item c.loop-item.invariant.added (rw g.met.T.Ranked.ranks_are full.free) in
    rw item (c.into_iter-items.result, c.loop-item.yielded, c.next.new.self, search rules, search rules, place)

pub unreachable-requires : goal.unreachable-requires
unreachable-requires g c =
    let why = rw c.in-Err-Duplicate.field-0-is at c.in-Err-Duplicate.ensures.reason in
    some_found why.conflict (no_slot (sym c.in_default.ensures))

pub remove_at-duplicate-requires : goal.remove_at-duplicate-requires
remove_at-duplicate-requires g c =
    let arm = c.in-Err-Duplicate in
    let why = rw arm.field-0-is at arm.ensures.reason in
    rw arm.ensures.unchanged (All-head (IsLive c.loop-item.map.slots) c.in-Some-slot.slot [] (stand_in (sym (one_slot (sym c.in-Some-slot.ensures))) why.conflict.found).live)

pub returns-in-Err-Duplicate-clause-refused : goal.returns-in-Err-Duplicate-clause-refused
returns-in-Err-Duplicate-clause-refused g c =
    let arm = c.in-Err-Duplicate in
    let item = rw arm.field-0-is at arm.ensures.handed_back in
    let why = rw arm.field-0-is at (rw (← g.met.T.Ranked.ranks_are) at arm.ensures.reason) in
    let listed = rw (rw arm.ensures.unchanged at c.remove_at-duplicate.ensures.value) at (stand_in (sym (one_slot (sym c.in-Some-slot.ensures))) why.conflict.found).items in
    let laws = AreLawful-are g.T.IdHashItem g.met.T.Ranked.ranks_are g.met.T.Key.Eq.laws in
    let stopped = RefusesFor-found g.T.Ranked.ranks (bag c.loop-item.map) c.loop-item.yielded c.in-Some.item c.loop-item.invariant.added laws why.conflict.some in
    rw (c.new-in-Err-Duplicate.ensures, listed, item) (c.into_iter-items.result, c.loop-item.yielded, c.next.new.self, search rules, search rules, stopped)
