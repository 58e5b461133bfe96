-- Made by tests/widths from crates/iddqd_bi/proofs/map/BiHashMap/has_partner/Answers.antt: change that file.
use Rattle.std.proofs.Common.{arith, [], sym, ◌∙◌, ap}
use Rattle.std.specs.Option.{option_copied}
use Rattle.iddqd_store.specs.Map.{bag}
use Rattle.iddqd_store.proofs.BagLemmas.Partners.{partner_none, partner_some}
use Rattle.iddqd_id.proofs.map.IdHashMap.has_partner.Goals as goal

pub returns-in-Some-clause-value : goal.returns-in-Some-clause-value
returns-in-Some-clause-value g c =
    let agree = λ (x y : g.row.T.Denot). g.T.Key.PartialEq.eq (g.T.IdHashItem.key x) (g.T.IdHashItem.key y) in
    let named = rw (c.key.ensures, ← c.item_of.ensures) at c.slot_of.ensures.found.only in
    let partner = partner_some agree [] g.T.PartialEq.eq (bag c.args.self.now) c.args.item.now _ c.in-Some.found.now named (ap option_copied c.in-Some.is) in
    c.eq.ensures ∙ sym partner

pub returns-in-None-clause-value : goal.returns-in-None-clause-value
returns-in-None-clause-value g c =
    let agree = λ (x y : g.row.T.Denot). g.T.Key.PartialEq.eq (g.T.IdHashItem.key x) (g.T.IdHashItem.key y) in
    let named = rw (c.key.ensures, ← c.item_of.ensures) at c.slot_of.ensures.found.only in
    sym (partner_none agree [] g.T.PartialEq.eq (bag c.args.self.now) c.args.item.now _ named (ap option_copied c.in-None.is))

pub returns-in-Some-clause-costs : goal.returns-in-Some-clause-costs
returns-in-Some-clause-costs g c = record { answer = _; between = c.slot_of.new.costs.asked; search = rw c.key.ensures at c.slot_of.ensures.costs; rest = omega arith }

pub returns-in-None-clause-costs : goal.returns-in-None-clause-costs
returns-in-None-clause-costs g c = record { answer = _; between = c.slot_of.new.costs.asked; search = rw c.key.ensures at c.slot_of.ensures.costs; rest = omega arith }
