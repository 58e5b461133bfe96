-- Made by tests/widths from crates/iddqd_bi/proofs/map/BiHashMap/insert_noted/Answers.antt: change that file.
use Rattle.std.proofs.Common.{◌≡◌, ◌∙◌, None, ap, rules}
use Rattle.std.specs.Prelude.{is_some}
use Rattle.iddqd_store.proofs.MapLemmas.Growing.{Gains-put, GrowsUnless-put}
use Rattle.iddqd_store.proofs.SlotLemmas.Batch.{StandAt-push}
use Rattle.iddqd_store.proofs.MapLemmas.Places.{is_some-at}
use Rattle.iddqd_tri.specs.Keys.{has1, has2, has3}
use Rattle.iddqd_tri.proofs.map.TriHashMap.insert_noted.Goals as goal

pub returns-clause-gains : goal.returns-clause-gains
returns-clause-gains g c =
    let made = c.make_room.ensures in
    Gains-put _ _ _ made.slots made.no_less_room made.same_room made.builder _ _ _ c.insert_into-slot.ensures.puts_at made.most

pub returns-clause-grows_unless : goal.returns-clause-grows_unless
returns-clause-grows_unless g c =
    let made = c.make_room.ensures in
    GrowsUnless-put _ _ _ made.slots made.no_less_room made.same_room made.builder _ _ _ c.insert_into-slot.ensures.puts_at

pub returns-then-is_err-clause-grows_unless : goal.returns-then-is_err-clause-grows_unless
returns-then-is_err-clause-grows_unless g c =
    record { no_less_room = c.make_room.ensures.no_less_room; same_room = λ spare. ap (λ m. m.capacity) (c.make_room.ensures.same_room spare); same_builder = c.make_room.ensures.builder }

pub returns-in-Found-clause-granted : goal.returns-in-Found-clause-granted
returns-in-Found-clause-granted g c = λ free spare noted. absurd (c.in-Found.ensures.conflict.some free)

pub insert_into-slot-requires-clause-free : goal.insert_into-slot-requires-clause-free
insert_into-slot-requires-clause-free g c = rw c.make_room.ensures.slots c.in-Vacant.ensures.free

pub insert_into-slot-requires-clause-spots : goal.insert_into-slot-requires-clause-spots
insert_into-slot-requires-clause-spots g c = rw (c.make_room.ensures.slots, c.make_room.ensures.builder) c.in-Vacant.ensures.spots

pub returns-clause-noted : goal.returns-clause-noted
returns-clause-noted g c = λ xs stand.
    rw (c.push.ensures, c.reserve_for.ensures.slots)
    (StandAt-push c.make_room.new.self.slots c.insert_into-slot.new.self.slots c.args.batch.now.slots xs c.insert_into-slot.result c.args.item
    c.insert_into-slot.ensures.was_free c.insert_into-slot.ensures.updates
    (rw c.make_room.ensures.slots stand))

-- a key is taken if the search for it found a slot
pub returns-in-Found-clause-reason : goal.returns-in-Found-clause-reason
returns-in-Found-clause-reason g c =
    let seen1 : c.is_some-taken1.result ≡ is_some c.in-Found.found1.slot = search rules in
    let seen2 : c.is_some-taken2.result ≡ is_some c.in-Found.found2.slot = search rules in
    let seen3 : c.is_some-taken3.result ≡ is_some c.in-Found.found3.slot = search rules in
    record {
      handed_back = search rules;
      taken1 = seen1 ∙ is_some-at (has1 g.T.TriHashItem g.T.K1.PartialEq.eq (g.T.TriHashItem.key1 c.args.item)) c.args.self.now.slots c.in-Found.found1.slot c.in-Found.ensures.found.0;
      taken2 = seen2 ∙ is_some-at (has2 g.T.TriHashItem g.T.K2.PartialEq.eq (g.T.TriHashItem.key2 c.args.item)) c.args.self.now.slots c.in-Found.found2.slot c.in-Found.ensures.found.1.0;
      taken3 = seen3 ∙ is_some-at (has3 g.T.TriHashItem g.T.K3.PartialEq.eq (g.T.TriHashItem.key3 c.args.item)) c.args.self.now.slots c.in-Found.found3.slot c.in-Found.ensures.found.1.1.0;
    }

pub returns-then-is_err-clause-reason : goal.returns-then-is_err-clause-reason
returns-then-is_err-clause-reason g c = record {
  handed_back = search rules;
  taken1 = is_some-at (has1 g.T.TriHashItem g.T.K1.PartialEq.eq (g.T.TriHashItem.key1 c.args.item)) c.args.self.now.slots None c.in-Vacant.ensures.found.0;
  taken2 = is_some-at (has2 g.T.TriHashItem g.T.K2.PartialEq.eq (g.T.TriHashItem.key2 c.args.item)) c.args.self.now.slots None c.in-Vacant.ensures.found.1.0;
  taken3 = is_some-at (has3 g.T.TriHashItem g.T.K3.PartialEq.eq (g.T.TriHashItem.key3 c.args.item)) c.args.self.now.slots None c.in-Vacant.ensures.found.1.1.0;
}
