use Rattle.std.proofs.Common.{arith, rules, sym, ◌∙◌}
use Rattle.std.proofs.lemmas.List.{length_push}
use Rattle.std.proofs.lemmas.Option.{slice_get-get_or}
use Rattle.iddqd_store.proofs.BagLemmas.Over.{drop-found}
use Rattle.iddqd_store.proofs.RankLemmas.ByHash.{stood}
use Rattle.iddqd_store.proofs.MapLemmas.Removing.{apart_from, next_leaves, next_live, none_left}
use Rattle.iddqd_bi.proofs.map.BiHashMap.remove_slots.Goals as goal
use Rattle.iddqd_bi.proofs.map.BiHashMap.remove_slots.Goals.{in-Some, in_default}

pub remove_at-requires : goal.remove_at-requires
remove_at-requires g c =
    next_live c.loop-index.invariant.leave (drop-found c.args.found.now c.loop-index.index c.in-Some.slot.now (sym c.in-Some.ensures))

pub loop-index-init : goal.loop-index-init
loop-index-init g c = rw c.new-taken.ensures record {
  leave = none_left c.args.self.now c.requires.live c.requires.apart;
  short = search rules;
  others = search rules;
  left = search rules;
}

pub loop-index-preserved : goal.loop-index-preserved
loop-index-preserved g c =
    let at = c.loop-index.index in
    let found = c.args.found.now in
    let so_far = c.loop-index.invariant in
    elim c.match-get.branch [
      | in-Some w ↦
          let slot = w.in-Some.slot.now in
          let is = sym w.in-Some.ensures in
          record {
            leave = rw (w.self-is, w.taken-is, w.push.ensures) (next_leaves so_far.leave (drop-found found at slot is) w.remove_at.ensures.updates w.remove_at.ensures.value w.remove_at.ensures.loses);
            short = rw (w.taken-is, w.push.ensures) (omega (arith, length_push c.loop-index.taken w.remove_at.result, so_far.short));
            others = λ other apart. rw w.self-is (w.remove_at.ensures.updates.others other (apart_from found at slot other is apart) ∙ so_far.others other apart);
            left = λ other x stands. so_far.left other x (stood c.loop-index.self.slots _ slot other x w.remove_at.ensures.updates (rw w.self-is at stands));
          }
      | in_default w ↦ absurd (let there = slice_get-get_or found at 0 (omega (arith, c.loop-index-test.true, c.len-index-end.ensures.value)) in let none = w.in_default.ensures in cc (there, none))
    ]
