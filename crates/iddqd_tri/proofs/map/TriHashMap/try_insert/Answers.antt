-- Made by tests/widths from crates/iddqd_bi/proofs/map/BiHashMap/try_insert/Answers.antt: change that file.
use Rattle.std.proofs.Common.{rules, ◌≡◌, sym, ◌∙◌}
use Rattle.std.specs.Prelude.{is_some}
use Rattle.iddqd_store.specs.Bag.{tests_of}
use Rattle.iddqd_store.specs.Map.{bag}
use Rattle.iddqd_store.proofs.CallerLemmas.Asking.{none-conflicts_of}
use Rattle.iddqd_store.proofs.MapLemmas.Growing.{not_full}
use Rattle.iddqd_store.proofs.MapLemmas.Places.{is_some-at, none_taken}
use Rattle.iddqd_tri.specs.Keys.{has1, has2, has3, ranks}
use Rattle.iddqd_tri.proofs.map.TriHashMap.try_insert.Goals as goal

pub returns-in-Err-Duplicate : goal.returns-in-Err-Duplicate
returns-in-Err-Duplicate g c =
    let arm = c.in-Err-Duplicate in
    let why = rw arm.field-0-is at arm.ensures.reason in
    let slots = c.args.self.now.slots in
    let seen1 : c.is_some-taken1.result ≡ is_some arm.found.0.slot = search rules in
    let seen2 : c.is_some-taken2.result ≡ is_some arm.found.1.slot = search rules in
    let seen3 : c.is_some-taken3.result ≡ is_some arm.found.2.slot = search rules in
    let taken1 = seen1 ∙ is_some-at (has1 g.T.TriHashItem g.T.K1.PartialEq.eq (g.T.TriHashItem.key1 c.args.item)) slots arm.found.0.slot why.found.0 in
    let taken2 = seen2 ∙ is_some-at (has2 g.T.TriHashItem g.T.K2.PartialEq.eq (g.T.TriHashItem.key2 c.args.item)) slots arm.found.1.slot why.found.1.0 in
    let taken3 = seen3 ∙ is_some-at (has3 g.T.TriHashItem g.T.K3.PartialEq.eq (g.T.TriHashItem.key3 c.args.item)) slots arm.found.2.slot why.found.1.1.0 in
    let none = none-conflicts_of (ranks g.T.TriHashItem g.T.K1.PartialEq.eq g.T.K2.PartialEq.eq g.T.K3.PartialEq.eq) (bag c.args.self.now) c.args.item in
    record {
      gains = search rules;
      free = search rules;
      granted = rw g.met.T.Ranked.ranks_are (λ free spare. absurd (why.conflict.some free));
      handed_back = rw arm.field-0-is at arm.ensures.handed_back;
      unchanged = arm.ensures.unchanged;
      reason = record {
        taken1 = taken1;
        taken2 = taken2;
        taken3 = taken3;
        full = λ free1 free2 free3. absurd (why.conflict.some (none (sym taken1 ∙ free1, (sym taken2 ∙ free2, (sym taken3 ∙ free3, tt)))));
      };
    }

pub returns-in-Err-Memory : goal.returns-in-Err-Memory
returns-in-Err-Memory g c =
    let arm = c.in-Err-Memory in
    let full = rw arm.field-0-is at arm.ensures.reason in
    let ranks = ranks g.T.TriHashItem g.T.K1.PartialEq.eq g.T.K2.PartialEq.eq g.T.K3.PartialEq.eq in
    let free = none_taken (tests_of ranks c.args.item) (bag c.args.self.now) full.free in
    record {
      gains = search rules;
      free = search rules;
      granted = λ free spare. absurd (not_full _ _ full.full spare);
      handed_back = rw arm.field-0-is at arm.ensures.handed_back;
      unchanged = arm.ensures.unchanged;
      reason = record { taken1 = sym free.0; taken2 = sym free.1.0; taken3 = sym free.1.1.0; full = λ free1 free2 free3. full };
    }
