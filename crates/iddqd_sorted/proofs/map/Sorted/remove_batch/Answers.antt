use Rattle.std.proofs.Common.{◌≡◌, arith, length, rules}
use Rattle.std.proofs.lemmas.List.{length_push}
use Rattle.std.proofs.lemmas.List.Sorted.{IsPermutation-refl}
use Rattle.std.proofs.lemmas.Option.{slice_get_read}
use Rattle.iddqd_store.proofs.BagLemmas.Over.{drop-found, IsPermutation-taken}
use Rattle.iddqd_store.proofs.MapLemmas.Removing.{next_leaves, next_live, none_left}
use Rattle.iddqd_sorted.specs.Items.{items}
use Rattle.iddqd_sorted.specs.Overwriting.{map_of}
use Rattle.iddqd_sorted.proofs.map.Sorted.remove_batch.Goals as goal

pub remove_slot-requires : goal.remove_slot-requires
remove_slot-requires g c =
    let numbers = c.into_parts-slots.result.0.items in
    let long : c.len-index-end.result ≡ length numbers = omega (arith, c.len-index-end.ensures, c.into_parts-slots.result.0.ok) in
    let here = slice_get_read numbers c.len-index-end.result c.loop-index.index c.index.result.now long c.loop-index-test.true c.index.ensures in
    next_live c.loop-index.invariant.leave (drop-found numbers c.loop-index.index c.index.result.now here)

pub loop-index-init : goal.loop-index-init
loop-index-init g c = record {
  leave = rw (c.into_parts-slots.ensures.slots, c.into_parts-slots.ensures.empty) (none_left (map_of c.args.self.now) c.requires.live c.requires.apart);
  taken = search rules;
  room = search rules;
  left = rw c.into_parts-slots.ensures.empty (IsPermutation-refl (items c.args.self.now));
  ascending = c.requires.in_order;
}

pub loop-index-preserved : goal.loop-index-preserved
loop-index-preserved g c =
    let numbers = c.into_parts-slots.result.0.items in
    let so_far = c.loop-index.invariant in
    let pushed = c.push_reserved.ensures in
    let gone = c.remove_slot.ensures in
    let long : c.len-index-end.result ≡ length numbers = omega (arith, c.len-index-end.ensures, c.into_parts-slots.result.0.ok) in
    let here = slice_get_read numbers c.len-index-end.result c.loop-index.index c.index.result.now long c.loop-index-test.true c.index.ensures in
    let front = drop-found numbers c.loop-index.index c.index.result.now here in
    record {
      leave = rw pushed.items (next_leaves so_far.leave front gone.updates gone.value gone.loses);
      taken = rw pushed.items (omega (arith, length_push c.loop-index.items.items c.remove_slot.result, so_far.taken));
      room = omega (arith, pushed.capacity, so_far.room);
      left = rw pushed.items (IsPermutation-taken _ _ _ c.loop-index.items.items c.remove_slot.result so_far.left gone.left);
      ascending = gone.ascending;
    }
