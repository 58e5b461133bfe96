-- Made by tests/widths from crates/iddqd_bi/proofs/map/BiHashMap/extend/Answers.antt: change that file.
use Rattle.std.proofs.Common.{arith, rules}
use Rattle.std.proofs.iter.Next.{on}
use Rattle.iddqd_store.specs.Map.State.{state_of}
use Rattle.iddqd_store.proofs.MapLemmas.Extending.{ExtendsTo-push}
use Rattle.iddqd_store.proofs.MapLemmas.{at_err}
use Rattle.iddqd_store.proofs.MapLemmas.Fitting.{GrowsUnless-so_far, HasRoomOn-overwrites, full_not}
use Rattle.iddqd_tri.proofs.map.TriHashMap.extend.Goals as goal

pub loop-item-preserved : goal.loop-item-preserved
loop-item-preserved g c =
    let so_far = c.loop-item.invariant in
    let next = on c.in-Some.item c.in-Some.is c.next.ensures.goes so_far.ending in
    let put = c.in_ok-insert_overwrite_counted.ensures.overwrites in
    record {
      callable = next.0;
      ending = next.1;
      extends = ExtendsTo-push g.T.Ranked.ranks (state_of c.args.self.now) (state_of c.loop-item.self) (state_of c.insert_overwrite_counted.new.self)
          c.loop-item.yielded c.in-Some.item _ so_far.extends put.items put.fits put.no_less_room put.most;
      room = HasRoomOn-overwrites so_far.room _ next.2 put;
    }

-- this goal is answered here, so that a mutant fails here, without a second search for it
pub loop-item-init : goal.loop-item-init
loop-item-init g c = record {
  callable = search rules;
  ending = search rules;
  extends = record {
    items = search rules;
    fits_on_the_way = search rules;
    no_less_room = search rules;
    most = omega (arith, c.grow.ensures.room.most, c.at_once.ensures.most, c.len.ensures.value);
  };
  room = record { no_less_room = search rules; fits = search rules; same_builder = search rules };
}

-- an insert that failed left the map as it was
pub returns-in_err-insert_overwrite_counted : goal.returns-in_err-insert_overwrite_counted
returns-in_err-insert_overwrite_counted g c =
    let so_far = c.loop-item.invariant in
    let failed = c.in_err-insert_overwrite_counted.ensures in
    let error = c.in_err-insert_overwrite_counted.field-0.0 in
    let nearer = (on c.in-Some.item c.in-Some.is c.next.ensures.goes so_far.ending).2 in
    record {
      all = search rules;
      refused = at_err c.from_residual.result error _ (search rules)
          (rw failed.unchanged (c.into_iter-item-iterator.result, c.loop-item.yielded, c.next.new.self, search rules, rw failed.handed_back (search rules), so_far.extends));
      full = at_err c.from_residual.result error _ (search rules) (rw (failed.unchanged, failed.handed_back) failed.reason);
      granted = λ fit. absurd (full_not so_far.room _ nearer fit failed.reason.full);
      grows_unless = rw failed.unchanged (GrowsUnless-so_far so_far.room);
    }

pub returns-clause-grows_unless : goal.returns-clause-grows_unless
returns-clause-grows_unless g c = GrowsUnless-so_far c.loop-item.invariant.room
