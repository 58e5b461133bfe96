-- Made by tests/widths from crates/iddqd_bi/proofs/map/BiHashMap/update_all/Answers.antt: change that file.
use Rattle.std.proofs.Common.{refl, ap, subst, sym, ◌∙◌, ◌+◌, length, arith}
use Rattle.std.proofs.lemmas.List.{length-set, drop_all}
use Rattle.std.proofs.lemmas.List.Sorted.{IsPermutation-refl}
use Rattle.std.specs.Fn.{CalledAt}
use Rattle.iddqd_store.specs.Map.Written.{map_with}
use Rattle.iddqd_store.specs.Slots.{contents}
use Rattle.iddqd_store.specs.Map.{Map, bag}
use Rattle.iddqd_store.specs.Map.Walk.{to_come}
use Rattle.iddqd_store.proofs.BagLemmas.Calling.{TakesEach, TakesEach-in_turn, takes_others}
use Rattle.iddqd_store.proofs.CallerLemmas.Updates.{stored-maps}
use Rattle.iddqd_store.proofs.MapLemmas.Walking.{passes}
use Rattle.iddqd_store.proofs.MapLemmas.Updating.{all_written, written_one}
use Rattle.iddqd_id.proofs.map.IdHashMap.update_all.Goals as goal
use Rattle.iddqd_id.proofs.map.IdHashMap.update_all.Goals.{in-Some, in_default}

pub loop-number-preserved : goal.loop-number-preserved
loop-number-preserved g c =
    let at = c.loop-number in
    elim c.match-slot_at.branch [
      | in-Some w ↦
          let stored = w.store_at.ensures.stored in
          let here = rw w.in-Some.ensures.here at stored.2 in
          let new = rw w.in-Some.ensures.here at stored.4 in
          let next = passes at.self at.number at.number stored.0 (c.slot_at.ensures.comes stored.0 here) in
          record {
            completes = rw (w.self-is, w.f-is)
                (written_one (CalledAt g.F.FnMut) g.T.IdHashItemMut.put c.args.f at.f w.store_at.new.f (contents c.args.self.now.slots) at.self at.number
                (at.number + 1) stored.0 stored.1 (λ f. map_with at.self at.number f) w.store_at.new.self new next stored.3 at.invariant.completes);
            callable = rw (w.self-is, w.f-is)
                (subst (λ l. TakesEach g.F.FnMut w.store_at.new.f l)
                (sym (ap (λ (m : Map g.row.T.Denot g.row.S.Denot). to_come m (at.number + 1)) new ∙ next.behind (λ y. g.T.IdHashItemMut.put y stored.1)))
                (takes_others g.F.FnMut at.f _ stored.0 _ stored.1 w.store_at.new.f next.comes stored.3 at.invariant.callable));
            slots = rw w.self-is (ap (λ (m : Map g.row.T.Denot g.row.S.Denot). length m.slots) new ∙ length-set at.self.slots at.number _ ∙ at.invariant.slots);
            capacity = rw w.self-is (ap (λ m. m.capacity) new ∙ at.invariant.capacity);
            builder = rw w.self-is (ap (λ m. m.builder) new ∙ at.invariant.builder);
          }
      | in_default w ↦
          record {
            completes = rw (w.self-is, w.f-is, w.in_default.ensures.passed, ← w.in_default.ensures.skips) at.invariant.completes;
            callable = rw (w.self-is, w.f-is, ← w.in_default.ensures.skips) at.invariant.callable;
            slots = rw w.self-is at.invariant.slots;
            capacity = rw w.self-is at.invariant.capacity;
            builder = rw w.self-is at.invariant.builder;
          }
    ]

pub loop-number-init : goal.loop-number-init
loop-number-init g c =
    let callable = TakesEach-in_turn g.F.FnMut c.args.f (bag c.args.self.now) (c.requires (bag c.args.self.now) (IsPermutation-refl (bag c.args.self.now))) in
    record { completes = λ rest h. h; callable = callable; slots = refl; capacity = refl; builder = refl }

pub returns : goal.returns
returns g c =
    let at = c.loop-number in
    let none = ap contents (drop_all at.number at.self.slots (omega (arith, c.loop-number-test.false, c.slot_count-number-end.ensures, at.invariant.slots))) in
    let all = all_written (CalledAt g.F.FnMut) g.T.IdHashItemMut.put c.args.f at.f c.args.self.now at.self at.number none at.invariant.completes in
    let maps = stored-maps (CalledAt g.F.FnMut) g.T.IdHashItemMut.put c.args.f (bag c.args.self.now) (bag at.self) all in
    record { stores = all; maps = maps; capacity = at.invariant.capacity; builder = at.invariant.builder }
