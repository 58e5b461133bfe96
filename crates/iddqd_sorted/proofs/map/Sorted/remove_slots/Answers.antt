use Rattle.std.proofs.Common.{◌≡◌, ◌≤◌, ◌+◌, arith, rules, subst, sym, length, map, ◌∙◌}
use Rattle.std.proofs.lemmas.List.{length_push}
use Rattle.std.proofs.lemmas.Option.{slice_get-get_or}
use Rattle.iddqd_store.proofs.BagLemmas.Over.{drop-found}
use Rattle.iddqd_store.proofs.RankLemmas.ByHash.{stood}
use Rattle.iddqd_store.proofs.MapLemmas.Removing.{apart_from, next_leaves, next_live, none_left}
use Rattle.iddqd_store.specs.Rank.{walks_within}
use Rattle.iddqd_sorted.specs.Items.{bag}
use Rattle.iddqd_sorted.specs.Overwriting.{map_of}
use Rattle.iddqd_sorted.proofs.Overwriting.{fewer_left, walks_add}
use Rattle.iddqd_sorted.proofs.map.Sorted.remove_slots.Goals as goal
use Rattle.iddqd_sorted.proofs.map.Sorted.remove_slots.Goals.{in-Some, in_default}

pub remove_slot-requires : goal.remove_slot-requires
remove_slot-requires g c =
    next_live c.loop-index.invariant.leave (drop-found c.args.slots.now c.loop-index.index c.in-Some.slot.now (sym c.in-Some.ensures))

pub loop-index-init : goal.loop-index-init
loop-index-init g c = rw c.new-taken.ensures record {
  leave = none_left (map_of c.args.self.now) c.requires.live c.requires.apart;
  short = search rules;
  others = search rules;
  left = search rules;
  asked = λ r few. omega arith;
  probed = omega arith;
}

pub loop-index-preserved : goal.loop-index-preserved
loop-index-preserved g c =
    let at = c.loop-index.index in
    let found = c.args.slots.now in
    let so_far = c.loop-index.invariant in
    let fewer = fewer_left _ _ _ so_far.leave.loses in
    elim c.match-get.branch [
      | in-Some w ↦
          let slot = w.in-Some.slot.now in
          let is = sym w.in-Some.ensures in
          let out = w.remove_slot.ensures in
          record {
            leave = rw (w.self-is, w.taken-is, w.push.ensures) (next_leaves so_far.leave (drop-found found at slot is) out.updates out.value out.loses);
            short = rw (w.taken-is, w.push.ensures) (omega (arith, length_push c.loop-index.taken w.remove_slot.result, so_far.short));
            others = λ other apart. rw w.self-is (out.updates.others other (apart_from found at slot other is apart) ∙ so_far.others other apart);
            left = λ other x stands. so_far.left other x (stood c.loop-index.self.slots _ slot other x out.updates (rw w.self-is at stands));
            asked = λ r few. rw w.meter-is (omega (arith, so_far.asked r few, out.asked r (omega (arith, fewer, few))));
            probed = rw w.probed-is (omega (arith, so_far.probed, out.probed, walks_add g.M.SlotMap.ranks at 1 _ _ fewer));
          }
      | in_default w ↦ absurd (let there = slice_get-get_or found at 0 (omega (arith, c.loop-index-test.true, c.len-index-end.ensures.value)) in let none = w.in_default.ensures in cc (there, none))
    ]

pub returns-clause-probed : goal.returns-clause-probed
returns-clause-probed g c =
    let all : c.loop-index.index ≡ length c.args.slots.now = omega (arith, c.loop-index-test.false, c.loop-index.auto.index-end, c.len-index-end.ensures.value) in
    subst (λ n. c.loop-index.probed ≤ c.args.probed.now + walks_within (length (bag c.args.self.now)) (map (λ _. n) g.M.SlotMap.ranks)) all c.loop-index.invariant.probed
