use Rattle.std.proofs.Common.{[], ◌∷◌, ◌++◌, ap, arith, length, length-append, rules, sym}
use Rattle.std.proofs.lemmas.List.Sorted.{length_permutation}
use Rattle.std.proofs.iter.Next.{on}
use Rattle.iddqd_store.proofs.BagLemmas.Building.{AddsTo-IsPermutation}
use Rattle.iddqd_sorted.proofs.Batches.{grows_left, grows_so_far, no_batch, one_more, some_rank, undone}
use Rattle.iddqd_sorted.proofs.Extending.{IsWithin, IsWithin-step}
use Rattle.iddqd_sorted.proofs.Sorting.{total}
use Rattle.iddqd_sorted.specs.Items.{items, by_sort}
use Rattle.iddqd_sorted.specs.Ordered.{IsAscending}
use Rattle.iddqd_sorted.proofs.map.Sorted.extend_unique.Goals as goal

pub loop-item-init : goal.loop-item-init
loop-item-init g c = record {
  callable = search rules;
  ending = search rules;
  batch = rw c.empty_batch-batch.ensures (no_batch g.M.SlotMap.ranks (by_sort g.M.Item.Sortable.sort_key g.M.Item.SortKey.Ord.cmp g.M.SlotMap.first_key g.M.FirstKey.Ord.cmp) c.args.self.now record { no_less_room = search rules; fits = search rules; same_builder = search rules });
  within = record { few = omega arith; most = omega arith };
}

pub loop-item-preserved : goal.loop-item-preserved
loop-item-preserved g c =
    let put = c.in_default.ensures in
    let next = on c.in-Some.item c.in-Some.is c.next.ensures.goes c.loop-item.invariant.ending in
    record {
      callable = next.0;
      ending = next.1;
      batch = one_more c.loop-item.invariant.batch _ next.2 put.lists put.gained put.free put.noted put.grows_unless;
      within = IsWithin-step c.in-Some.item _ c.loop-item.invariant.within (omega (arith, length_permutation _ _ put.gained)) put.grows_unless.same_room put.most;
    }

-- the slots that were noted are those of the items that came
pub remove_batch-before-requires-clause-live : goal.remove_batch-before-requires-clause-live
remove_batch-before-requires-clause-live g c = rw (c.in-Err.ensures.same_slots, c.in-Err.ensures.same_notes) c.loop-item.invariant.batch.noted.live

pub remove_batch-before-requires-clause-apart : goal.remove_batch-before-requires-clause-apart
remove_batch-before-requires-clause-apart g c = rw c.in-Err.ensures.same_notes c.loop-item.invariant.batch.noted.apart

pub remove_batch-before-requires-clause-in_order : goal.remove_batch-before-requires-clause-in_order
remove_batch-before-requires-clause-in_order g c = rw (c.in-Err.ensures.same_slots, c.in-Err.ensures.same_blocks) c.in-Err.ensures.ascending

pub returns-in-Err : goal.returns-in-Err
returns-in-Err g c =
    let o = total g.M.Item.Sortable.sort_key g.met.M.Item.SortKey.Ord.total g.M.SlotMap.first_key g.met.M.FirstKey.Ord.total in
    let batch = c.loop-item.invariant.batch in
    let failed = c.in-Err.ensures in
    let left = c.remove_batch-before.ensures in
    let x = c.in-Some.item in
    let some = some_rank g.M.SlotMap.ranks x (g.met.M.SlotMap.same_first x x (g.met.M.FirstKey.Eq.laws.refl (g.M.SlotMap.first_key x))) in
    let up : IsAscending (by_sort g.M.Item.Sortable.sort_key g.M.Item.SortKey.Ord.cmp g.M.SlotMap.first_key g.M.FirstKey.Ord.cmp) (items c.args.self.now) = rw (← c.self.view_is) c.self.invariant.ascending in
    let back = undone batch o g.met.M.SlotMap.lawful c.insert_noted.new.self c.remove_batch-before.new.self some failed.sound up left.ascending failed.same_slots failed.same_blocks failed.same_notes left.values left.left failed.taken in
    let nearer = (on x c.in-Some.is c.next.ensures.goes c.loop-item.invariant.ending).2 in
    record {
      all = search rules;
      same_items = back.same;
      refused = rw failed.handed_back (c.into_iter-items.result, c.loop-item.yielded, c.next.new.self, search rules, search rules, sym back.all);
      reason = rw failed.handed_back record { apart = back.apart; taken = back.found };
      most =
          let grown : IsWithin c.args.self.now c.insert_noted.new.self (c.loop-item.yielded ++ x ∷ []) = IsWithin-step x _ c.loop-item.invariant.within (rw (failed.same_slots, failed.same_blocks) (omega arith)) failed.grows_unless.same_room failed.most in
          omega (arith, grown.most, left.capacity, ap length back.all, length-append c.loop-item.yielded (x ∷ []));
      grows_unless = grows_left batch.room _ nearer failed.grows_unless left.capacity left.builder;
    }

pub returns-clause-all : goal.returns-clause-all
returns-clause-all g c = (c.into_iter-items.result, c.loop-item.yielded, search rules, search rules, c.loop-item.invariant.batch.added)

pub returns-clause-most : goal.returns-clause-most
returns-clause-most g c =
    let at = c.loop-item in
    let all = AddsTo-IsPermutation g.M.SlotMap.ranks (items c.args.self.now) (items at.self) at.yielded at.invariant.batch.added.all in
    omega (arith, at.invariant.within.most, length_permutation _ _ all, length-append at.yielded (items c.args.self.now))

pub returns-clause-grows_unless : goal.returns-clause-grows_unless
returns-clause-grows_unless g c = grows_so_far c.loop-item.invariant.batch.room
