use Rattle.std.proofs.Common.{None, slice_set, ◌∷◌}
use Rattle.iddqd_store.specs.Map.{bag}
use Rattle.iddqd_store.specs.Slots.{contents}
use Rattle.iddqd_store.proofs.MapLemmas.Rekeyed.{exchanged, other_blocks}
use Rattle.iddqd_store.proofs.RankLemmas.Placing.{placing}
use Rattle.iddqd_store.proofs.SlotLemmas.Contents.{contents-take}
use Rattle.iddqd_bi.specs.Keys.{has1, ranks}
use Rattle.iddqd_bi.proofs.map.BiHashMap.rekey1_counted.Goals as goal

pub returns-in-Ok-clause-puts : goal.returns-in-Ok-clause-puts
returns-in-Ok-clause-puts g c =
    let slots = c.args.self.now.slots in
    let put = c.in-Ok.ensures.puts_at in
    let out = contents-take slots c.in-Some.slot c.in-Ok.old c.in-Ok.ensures.value in
    record {
      items = exchanged c.in-Ok.old c.args.item (bag c.args.self.now) (bag c.rekey_at.new.self) (contents (slice_set slots c.in-Some.slot None)) out put.items;
      fits = put.fits;
      same_room = put.same_room;
      same_builder = put.same_builder;
    }

pub returns-in-Err-clause-reason : goal.returns-in-Err-clause-reason
returns-in-Err-clause-reason g c =
    let ranks = ranks g.T.BiHashItem g.T.K1.PartialEq.eq g.T.K2.PartialEq.eq in
    rw g.met.T.Ranked.ranks_are (other_blocks ranks (has1 g.T.BiHashItem g.Q.Query.stands_for c.args.query) c.args.self.now.slots c.in-Some.slot
    c.args.item c.in-Some.ensures.found c.in-Err.ensures.reason)

pub returns-in-Ok-clause-costs : goal.returns-in-Ok-clause-costs
returns-in-Ok-clause-costs g c =
    let then = c.rekey_at.ensures.costs in
    rw g.met.T.Ranked.ranks_are (placing (c.slot1_of.result ∷ then.answers) then.between (c.slot1_of.new.costs, c.slot1_of.ensures.costs, then.search) then.rest)

pub returns-in-Err-clause-costs : goal.returns-in-Err-clause-costs
returns-in-Err-clause-costs g c =
    let then = c.rekey_at.ensures.costs in
    rw g.met.T.Ranked.ranks_are (placing (c.slot1_of.result ∷ then.answers) then.between (c.slot1_of.new.costs, c.slot1_of.ensures.costs, then.search) then.rest)
