use Rattle.std.proofs.Common.{arith, rules, sym, ◌∙◌}
use Rattle.iddqd_store.specs.Map.{bag}
use Rattle.iddqd_store.proofs.MapLemmas.Blocking.{some_found}
use Rattle.iddqd_store.proofs.MapLemmas.Overwriting.{Overwrites-gains, Overwrites-puts}
use Rattle.iddqd_store.proofs.MapLemmas.Places.{order_none}
use Rattle.iddqd_store.proofs.RankLemmas.Placing.{walked_after}
use Rattle.iddqd_bi.specs.Keys.{ranks}
use Rattle.iddqd_bi.proofs.map.BiHashMap.insert_overwrite_counted.Goals as goal

pub overwrite-displaced-requires : goal.overwrite-displaced-requires
overwrite-displaced-requires g c =
    let arm = c.in-Err-Duplicate in
    let why = rw arm.field-0-is at arm.ensures.reason in
    let item = rw arm.field-0-is at arm.ensures.handed_back in
    rw (item, arm.ensures.unchanged) record { conflicts = why.conflict.found; some = some_found why.conflict; hashes = why.hashes; hashed = why.hashed }

pub returns-in-Ok-clause-displaced : goal.returns-in-Ok-clause-displaced
returns-in-Ok-clause-displaced g c =
    let none = order_none (ranks g.T.BiHashItem g.T.K1.PartialEq.eq g.T.K2.PartialEq.eq) (bag c.args.self.now) c.args.item c.in-Ok.ensures.free in
    rw g.met.T.Ranked.ranks_are (c.new.ensures ∙ sym none)

pub returns-in-Ok-clause-overwrites : goal.returns-in-Ok-clause-overwrites
returns-in-Ok-clause-overwrites g c =
    let ranks = ranks g.T.BiHashItem g.T.K1.PartialEq.eq g.T.K2.PartialEq.eq in
    rw g.met.T.Ranked.ranks_are (Overwrites-gains ranks c.args.self.now c.insert_or_refuse.new.self c.args.item c.in-Ok.ensures.free c.in-Ok.ensures.gains)

pub returns-in-Ok-clause-costs : goal.returns-in-Ok-clause-costs
returns-in-Ok-clause-costs g c =
    let none = order_none (ranks g.T.BiHashItem g.T.K1.PartialEq.eq g.T.K2.PartialEq.eq) (bag c.args.self.now) c.args.item c.in-Ok.ensures.free in
    rw g.met.T.Ranked.ranks_are (rw none c.in-Ok.ensures.costs)

pub returns-in-Err-Duplicate : goal.returns-in-Err-Duplicate
returns-in-Err-Duplicate g c =
    let arm = c.in-Err-Duplicate in
    let item = rw arm.field-0-is at arm.ensures.handed_back in
    let put = rw (item, arm.ensures.unchanged) at c.overwrite-displaced.ensures in
    rw g.met.T.Ranked.ranks_are record {
      displaced = put.displaced;
      overwrites = Overwrites-puts _ _ _ _ _ put.puts_at;
      granted = search rules;
      handed_back = search rules;
      unchanged = search rules;
      reason = search rules;
      costs = walked_after (rw (← c.costs.view_is) at arm.ensures.costs) (omega arith) (rw put.displaced at put.costs);
    }

pub returns-in-Err-Memory : goal.returns-in-Err-Memory
returns-in-Err-Memory g c =
    let arm = c.in-Err-Memory in
    let full = rw arm.field-0-is at arm.ensures.reason in
    rw g.met.T.Ranked.ranks_are record {
      displaced = search rules;
      overwrites = search rules;
      granted = λ spare. absurd (omega (arith, full.full, spare));
      handed_back = rw arm.field-0-is at arm.ensures.handed_back;
      unchanged = arm.ensures.unchanged;
      reason = full;
      costs = walked_after arm.ensures.costs (omega arith) (omega arith);
    }
