use Rattle.std.proofs.Common.{refl, rules, arith}
use Rattle.std.proofs.iter.Next.{on}
use Rattle.iddqd_store.proofs.MapLemmas.{at_err}
use Rattle.iddqd_sorted.specs.Items.{items, by_sort}
use Rattle.iddqd_sorted.proofs.Extending.{GrowsUnless-so_far, HasRoomOn-overwrites, IsWithin-overwrites, IsWithin-start, full_not, overwritten-push}
use Rattle.iddqd_sorted.proofs.map.Sorted.extend.Goals as goal

pub loop-item-preserved : goal.loop-item-preserved
loop-item-preserved g c =
    let so_far = c.loop-item.invariant in
    let next = on c.in-Some.item c.in-Some.is c.next.ensures.goes so_far.ending in
    let put = c.in_ok-insert_overwrite_counted.ensures.overwrites in
    record {
      callable = next.0;
      ending = next.1;
      extends = overwritten-push g.M.SlotMap.ranks (by_sort g.M.Item.Sortable.sort_key g.M.Item.SortKey.Ord.cmp g.M.SlotMap.first_key g.M.FirstKey.Ord.cmp) (items c.args.self.now) (items c.loop-item.self)
          (items c.insert_overwrite_counted.new.self) c.loop-item.yielded c.in-Some.item so_far.extends put.lists;
      fits = put.fits;
      room = HasRoomOn-overwrites so_far.room _ next.2 put;
      within = IsWithin-overwrites so_far.within put;
    }

pub loop-item-init : goal.loop-item-init
loop-item-init g c = record {
  callable = search rules;
  ending = search rules;
  extends = rw (c.grow.ensures.slots, c.grow.ensures.blocks) refl;
  fits = rw (c.grow.ensures.slots, c.grow.ensures.blocks) (omega (arith, c.grow.ensures.fits, c.grow.ensures.room.no_less_room));
  room = record { no_less_room = search rules; fits = search rules; same_builder = search rules };
  within = IsWithin-start _ (rw (c.grow.ensures.slots, c.grow.ensures.blocks) refl) c.grow.ensures.room.most (omega (arith, c.at_once.ensures.most, c.len.ensures.value));
}

-- an insert that failed left the map as it was
pub returns-in_err-insert_overwrite_counted : goal.returns-in_err-insert_overwrite_counted
returns-in_err-insert_overwrite_counted g c =
    let so_far = c.loop-item.invariant in
    let failed = c.in_err-insert_overwrite_counted.ensures in
    let error = c.in_err-insert_overwrite_counted.field-0.0 in
    let nearer = (on c.in-Some.item c.in-Some.is c.next.ensures.goes so_far.ending).2 in
    record {
      all = search rules;
      refused = at_err c.from_residual.result error _ (search rules)
          (rw failed.unchanged (
            c.into_iter-item-iterator.result,
            c.loop-item.yielded,
            c.next.new.self,
            search rules,
            rw failed.handed_back (search rules),
            record { lists = so_far.extends; fits = so_far.fits; most = so_far.within.most },
          ));
      full = at_err c.from_residual.result error _ (search rules) (rw (failed.unchanged, failed.handed_back) failed.reason);
      granted = λ fit. absurd (full_not so_far.room _ nearer fit failed.reason.full);
      grows_unless = rw failed.unchanged (GrowsUnless-so_far so_far.room);
    }

pub returns-clause-all : goal.returns-clause-all
returns-clause-all g c =
    let so_far = c.loop-item.invariant in
    (c.into_iter-item-iterator.result, c.loop-item.yielded, search rules, search rules, record { lists = so_far.extends; fits = so_far.fits; most = so_far.within.most })

pub returns-clause-grows_unless : goal.returns-clause-grows_unless
returns-clause-grows_unless g c = GrowsUnless-so_far c.loop-item.invariant.room
