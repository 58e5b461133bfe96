-- Made by tests/widths from crates/iddqd_bi/proofs/map/BiHashMap/remove_batch/Answers.antt: change that file.
use Rattle.std.proofs.Common.{◌≡◌, arith, length, rules}
use Rattle.std.proofs.lemmas.List.{length_push}
use Rattle.std.proofs.lemmas.Option.{slice_get_read}
use Rattle.iddqd_store.proofs.BagLemmas.Over.{drop-found}
use Rattle.iddqd_store.proofs.MapLemmas.Removing.{next_leaves, next_live, none_left}
use Rattle.iddqd_tri.proofs.map.TriHashMap.remove_batch.Goals as goal

pub remove_at-requires : goal.remove_at-requires
remove_at-requires g c =
    let numbers = c.into_parts-slots.result.0.items in
    let long : c.len-index-end.result ≡ length numbers = omega (arith, c.len-index-end.ensures, c.into_parts-slots.result.0.ok) in
    let here = slice_get_read numbers c.len-index-end.result c.loop-index.index c.index.result.now long c.loop-index-test.true c.index.ensures in
    next_live c.loop-index.invariant.leave (drop-found numbers c.loop-index.index c.index.result.now here)

pub loop-index-init : goal.loop-index-init
loop-index-init g c = record {
  leave = rw (c.into_parts-slots.ensures.slots, c.into_parts-slots.ensures.empty) (none_left c.args.self.now c.requires.live c.requires.apart);
  taken = search rules;
  room = search rules;
}

pub loop-index-preserved : goal.loop-index-preserved
loop-index-preserved g c =
    let numbers = c.into_parts-slots.result.0.items in
    let so_far = c.loop-index.invariant in
    let pushed = c.push_reserved.ensures in
    let long : c.len-index-end.result ≡ length numbers = omega (arith, c.len-index-end.ensures, c.into_parts-slots.result.0.ok) in
    let here = slice_get_read numbers c.len-index-end.result c.loop-index.index c.index.result.now long c.loop-index-test.true c.index.ensures in
    let front = drop-found numbers c.loop-index.index c.index.result.now here in
    record {
      leave = rw pushed.items (next_leaves so_far.leave front c.remove_at.ensures.updates c.remove_at.ensures.value c.remove_at.ensures.loses);
      taken = rw pushed.items (omega (arith, length_push c.loop-index.items.items c.remove_at.result, so_far.taken));
      room = omega (arith, pushed.capacity, so_far.room);
    }
