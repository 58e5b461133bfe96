-- Written by hand; tests/one_key.patch says why.
use Rattle.std.proofs.Common.{rules, arith, refl, ◌≡◌, true, Some, sym, subst, ◌∙◌}
use Rattle.iddqd_store.specs.Map.{Map}
use Rattle.iddqd_store.specs.Slots.{get}
use Rattle.iddqd_store.proofs.MapLemmas.Updating.{found_one}
use Rattle.iddqd_store.proofs.MapLemmas.Written.{item_written}
use Rattle.iddqd_store.proofs.SlotLemmas.Here.{finds_here}
use Rattle.iddqd_id.specs.Keys.{has, key_tests, ranks}
use Rattle.iddqd_id.proofs.FoundLemmas.{only_passes}
use Rattle.iddqd_id.proofs.MapLemmas.{AreKeyTests-queries}
use Rattle.iddqd_id.proofs.entry.OccupiedEntry.insert.Goals as goal

pub replace_at-gone-requires-clause-same_keys : goal.replace_at-gone-requires-clause-same_keys
replace_at-gone-requires-clause-same_keys g c = λ x here.
    (let o = c.args.self.now in
    let test = has g.T.IdHashItem g.Q.Query.stands_for o.query in
    let same : test c.args.item ≡ true = search rules in
    let only = found_one test o.map.now.slots o.slot x (record { only = c.requires.only; live = c.requires.live }) here in
    sym (g.met.Q.Query.respects_eq o.query _ _ (only_passes test _ x only)) ∙ same)

pub returns-clause-displaced : goal.returns-clause-displaced
returns-clause-displaced g c = rw c.replace_at-gone.ensures.old at c.requires.only

pub returns-clause-puts_over : goal.returns-clause-puts_over
returns-clause-puts_over g c =
    let o = c.args.self.now in
    let put = c.replace_at-gone in
    let new = put.new.self in
    let tests = key_tests g.T.IdHashItem g.Q.Query.stands_for o.query in
    let same : g.Q.Query.stands_for o.query (g.T.IdHashItem.key c.args.item) ≡ true = search rules in
    let keys = AreKeyTests-queries g.T.IdHashItem g.T.Key.PartialEq.eq g.Q.Query.stands_for g.met.Q.Query.respects_eq o.query in
    let at : get new.slots o.slot ≡ Some c.args.item = subst (λ (m : Map g.row.T.Denot g.row.S.Denot). get m.slots o.slot ≡ Some c.args.item)
    (sym put.ensures.new) (item_written o.map.now o.slot (λ (x : g.row.T.Denot). c.args.item) put.result put.ensures.old) in
    let here = finds_here (ranks g.T.IdHashItem g.T.Key.PartialEq.eq) tests (omega arith) keys new.slots o.slot c.args.item (same, tt) c.len.ensures.sound at in
    record {
      same_map = refl;
      items = put.ensures.swaps;
      has_found = record { only = here.found.0.only; live = here.found.0.live };
      item = at;
      key = refl;
      capacity = rw put.ensures.new refl;
      builder = rw put.ensures.new refl;
    }
