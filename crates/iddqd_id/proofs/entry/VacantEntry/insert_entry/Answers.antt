-- Made by tests/widths from crates/iddqd_bi/proofs/entry/VacantEntry/insert_entry/Answers.antt: change that file.
use Rattle.std.proofs.Common.{rules, arith, refl, ◌≡◌, true}
use Rattle.iddqd_store.proofs.SlotLemmas.Here.{finds_here}
use Rattle.iddqd_id.specs.Keys.{key_tests, ranks}
use Rattle.iddqd_id.proofs.MapLemmas.{AreKeyTests-queries}
use Rattle.iddqd_id.proofs.entry.VacantEntry.insert_entry.Goals as goal

pub returns-in-Ok-clause-gains_and_finds : goal.returns-in-Ok-clause-gains_and_finds
returns-in-Ok-clause-gains_and_finds g c =
    let v = c.args.self in
    let put = c.in-Ok.ensures in
    let same : g.Q.Query.stands_for v.query (g.T.IdHashItem.key c.args.item) ≡ true = search rules in
    let tests = key_tests g.T.IdHashItem g.Q.Query.stands_for v.query in
    let keys = AreKeyTests-queries g.T.IdHashItem g.T.Key.PartialEq.eq g.Q.Query.stands_for g.met.Q.Query.respects_eq v.query in
    let here = finds_here (ranks g.T.IdHashItem g.T.Key.PartialEq.eq) tests
    (omega arith) keys c.insert_free.new.self.slots c.in-Ok.slot c.args.item (same, tt) put.sound put.value in
    record {
      same_map = refl;
      gains = put.gains;
      key = refl;
      item = put.value;
      has_found = record { only = here.found.0.only; live = here.found.0.live };
    }
