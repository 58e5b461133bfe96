use Rattle.std.proofs.Common.{[], ◌∷◌, ap, arith, length, length-append, rules, sym, ◌∙◌}
use Rattle.std.proofs.iter.Next.{on}
use Rattle.iddqd_bi.specs.Keys.{has1, has2}
use Rattle.iddqd_store.proofs.MapLemmas.Fitting.{GrowsUnless-left, GrowsUnless-so_far, all_are, grown_for, no_batch, one_more, sound_then, undone}
use Rattle.iddqd_bi.proofs.MapLemmas.{AreLawful-are, some_are}
use Rattle.iddqd_bi.proofs.map.BiHashMap.extend_unique.Goals as goal

pub loop-item-init : goal.loop-item-init
loop-item-init g c = record {
  callable = search rules;
  ending = search rules;
  batch = rw c.empty_batch-batch.ensures (no_batch g.T.Ranked.ranks c.args.self.now record { no_less_room = search rules; fits = search rules; same_builder = search rules });
}

pub loop-item-preserved : goal.loop-item-preserved
loop-item-preserved g c =
    let put = c.in_default.ensures in
    let next = on c.in-Some.item c.in-Some.is c.next.ensures.goes c.loop-item.invariant.ending in
    record { callable = next.0; ending = next.1; batch = one_more c.loop-item.invariant.batch _ next.2 (rw g.met.T.Ranked.ranks_are put.free) put.gains put.noted }

-- the slots that were noted are those of the items that came
pub remove_batch-before-requires : goal.remove_batch-before-requires
remove_batch-before-requires g c =
    let noted = c.loop-item.invariant.batch.noted in
    record { live = rw (c.in-Err.ensures.slots, c.in-Err.ensures.same_notes) noted.live; apart = rw c.in-Err.ensures.same_notes noted.apart }

pub returns-in-Err : goal.returns-in-Err
returns-in-Err g c =
    let batch = c.loop-item.invariant.batch in
    let failed = c.in-Err.ensures in
    let why = failed.reason in
    let left = c.remove_batch-before.ensures in
    let laws = AreLawful-are g.T.BiHashItem g.met.T.Ranked.ranks_are g.met.T.K1.Eq.laws g.met.T.K2.Eq.laws in
    let back = undone batch laws (rw (g.met.T.Ranked.ranks_are, ← c.self.view_is) c.self.invariant.sound) (some_are g.met.T.Ranked.ranks_are) failed.slots failed.same_notes left.values left.loses in
    let nearer = (on c.in-Some.item c.in-Some.is c.next.ensures.goes c.loop-item.invariant.ending).2 in
    record {
      all = search rules;
      refused = rw why.handed_back (c.into_iter-items.result, c.loop-item.yielded, c.next.new.self, search rules, search rules, sym back.all);
      same_items = back.same;
      reason = rw why.handed_back record {
        apart = rw (← g.met.T.Ranked.ranks_are) back.apart;
        taken1 = why.taken1 ∙ back.key (has1 g.T.BiHashItem g.T.K1.PartialEq.eq (g.T.BiHashItem.key1 c.in-Some.item));
        taken2 = why.taken2 ∙ back.key (has2 g.T.BiHashItem g.T.K2.PartialEq.eq (g.T.BiHashItem.key2 c.in-Some.item));
      };
      sound = back.sound;
      most = omega (arith, grown_for batch _ c.in-Some.item failed.most, left.loses.same_room, ap length back.all, length-append c.loop-item.yielded (c.in-Some.item ∷ []));
      grows_unless = GrowsUnless-left batch.room _ nearer failed.grows_unless left.loses.same_room left.loses.same_builder;
    }

pub returns-clause-sound : goal.returns-clause-sound
returns-clause-sound g c =
    let laws = AreLawful-are g.T.BiHashItem g.met.T.Ranked.ranks_are g.met.T.K1.Eq.laws g.met.T.K2.Eq.laws in
    sound_then c.loop-item.invariant.batch laws (rw (g.met.T.Ranked.ranks_are, ← c.self.view_is) c.self.invariant.sound)

pub returns-clause-grows_unless : goal.returns-clause-grows_unless
returns-clause-grows_unless g c = GrowsUnless-so_far c.loop-item.invariant.batch.room

pub returns-clause-most : goal.returns-clause-most
returns-clause-most g c = let batch = c.loop-item.invariant.batch in omega (arith, batch.most, all_are batch)
