-- Made by tests/widths from crates/iddqd_bi/proofs/map/BiHashMap/try_insert/Answers.antt: change that file.
use Rattle.std.proofs.Common.{rules, ◌≡◌, sym, ◌∙◌}
use Rattle.std.specs.Prelude.{is_some}
use Rattle.iddqd_store.specs.Bag.{tests_of}
use Rattle.iddqd_store.specs.Map.{bag}
use Rattle.iddqd_store.proofs.CallerLemmas.Asking.{none-conflicts_of}
use Rattle.iddqd_store.proofs.MapLemmas.Growing.{not_full}
use Rattle.iddqd_store.proofs.MapLemmas.Places.{is_some-at, none_taken}
use Rattle.iddqd_id.specs.Keys.{has, ranks}
use Rattle.iddqd_id.proofs.map.IdHashMap.try_insert.Goals as goal

pub returns-in-Err-Duplicate : goal.returns-in-Err-Duplicate
returns-in-Err-Duplicate g c =
    let arm = c.in-Err-Duplicate in
    let why = rw arm.field-0-is at arm.ensures.reason in
    let slots = c.args.self.now.slots in
    let seen : c.is_some-taken.result ≡ is_some arm.found.slot = search rules in
    let taken = seen ∙ is_some-at (has g.T.IdHashItem g.T.Key.PartialEq.eq (g.T.IdHashItem.key c.args.item)) slots arm.found.slot why.found.0 in
    let none = none-conflicts_of (ranks g.T.IdHashItem g.T.Key.PartialEq.eq) (bag c.args.self.now) c.args.item in
    record {
      gains = search rules;
      free = search rules;
      granted = rw g.met.T.Ranked.ranks_are (λ free spare. absurd (why.conflict.some free));
      handed_back = rw arm.field-0-is at arm.ensures.handed_back;
      unchanged = arm.ensures.unchanged;
      reason = record {
        taken = taken;
        full = λ free. absurd (why.conflict.some (none (sym taken ∙ free, tt)));
      };
    }

pub returns-in-Err-Memory : goal.returns-in-Err-Memory
returns-in-Err-Memory g c =
    let arm = c.in-Err-Memory in
    let full = rw arm.field-0-is at arm.ensures.reason in
    let ranks = ranks g.T.IdHashItem g.T.Key.PartialEq.eq in
    let free = none_taken (tests_of ranks c.args.item) (bag c.args.self.now) full.free in
    record {
      gains = search rules;
      free = search rules;
      granted = λ free spare. absurd (not_full _ _ full.full spare);
      handed_back = rw arm.field-0-is at arm.ensures.handed_back;
      unchanged = arm.ensures.unchanged;
      reason = record { taken = sym free.0; full = λ free. full };
    }
