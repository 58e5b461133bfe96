-- Made by tests/widths from crates/iddqd_bi/proofs/entry/VacantEntry/insert_entry/Answers.antt: change that file.
use Rattle.std.proofs.Common.{rules, arith, refl, ◌≡◌, true}
use Rattle.iddqd_store.proofs.SlotLemmas.Here.{finds_here}
use Rattle.iddqd_tri.specs.Keys.{key_tests, ranks}
use Rattle.iddqd_tri.proofs.MapLemmas.{AreKeyTests-queries}
use Rattle.iddqd_tri.proofs.entry.VacantEntry.insert_entry.Goals as goal

pub returns-in-Ok-clause-gains_and_finds : goal.returns-in-Ok-clause-gains_and_finds
returns-in-Ok-clause-gains_and_finds g c =
    let v = c.args.self in
    let put = c.in-Ok.ensures in
    let same1 : g.Q1.Query.stands_for v.query1 (g.T.TriHashItem.key1 c.args.item) ≡ true = search rules in
    let same2 : g.Q2.Query.stands_for v.query2 (g.T.TriHashItem.key2 c.args.item) ≡ true = search rules in
    let same3 : g.Q3.Query.stands_for v.query3 (g.T.TriHashItem.key3 c.args.item) ≡ true = search rules in
    let tests = key_tests g.T.TriHashItem g.Q1.Query.stands_for g.Q2.Query.stands_for g.Q3.Query.stands_for v.query1 v.query2 v.query3 in
    let keys = AreKeyTests-queries g.T.TriHashItem g.T.K1.PartialEq.eq g.T.K2.PartialEq.eq g.T.K3.PartialEq.eq g.Q1.Query.stands_for
    g.Q2.Query.stands_for
    g.Q3.Query.stands_for g.met.Q1.Query.respects_eq g.met.Q2.Query.respects_eq g.met.Q3.Query.respects_eq v.query1 v.query2 v.query3 in
    let here = finds_here (ranks g.T.TriHashItem g.T.K1.PartialEq.eq g.T.K2.PartialEq.eq g.T.K3.PartialEq.eq) tests
    (omega arith) keys c.insert_free.new.self.slots c.in-Ok.slot c.args.item (same1, (same2, (same3, tt))) put.sound put.value in
    record {
      same_map = refl;
      gains = put.gains;
      keys = (refl, refl, refl);
      has_found = record { found = here.found; value = here.value; listed = here.listed; some = here.some };
      unique = here.unique_item;
    }
