-- Made by tests/widths from crates/iddqd_bi/proofs/map/BiHashMap/has_partner/Answers.antt: change that file.
use Rattle.std.proofs.Common.{arith, ◌∷◌, [], sym, ◌∙◌, ap, refl}
use Rattle.std.specs.Option.{option_copied}
use Rattle.iddqd_store.specs.Map.{bag}
use Rattle.iddqd_store.proofs.BagLemmas.Partners.{partner_none, partner_some}
use Rattle.iddqd_tri.proofs.map.TriHashMap.has_partner.Goals as goal

pub returns-then-has_others-clause-value : goal.returns-then-has_others-clause-value
returns-then-has_others-clause-value g c =
    let agree1 = λ (x y : g.row.T.Denot). g.T.K1.PartialEq.eq (g.T.TriHashItem.key1 x) (g.T.TriHashItem.key1 y) in
    let agree2 = λ (x y : g.row.T.Denot). g.T.K2.PartialEq.eq (g.T.TriHashItem.key2 x) (g.T.TriHashItem.key2 y) in
    let agree3 = λ (x y : g.row.T.Denot). g.T.K3.PartialEq.eq (g.T.TriHashItem.key3 x) (g.T.TriHashItem.key3 y) in
    let named = rw (c.key1.ensures, ← c.item_of.ensures) at c.slot1_of.ensures.found.only in
    let partner = partner_some agree1 (agree2 ∷ agree3 ∷ []) g.T.PartialEq.eq (bag c.args.self.now) c.args.item.now _ c.in-Some.found.now named (ap option_copied c.in-Some.is) in
    let equal = rw (c.key2.ensures, c.key3.ensures) at c.has_others.ensures.value in
    c.eq.ensures ∙ sym (partner ∙ rw (sym equal ∙ c.if-has_others.true) refl)

pub returns-else-has_others-clause-value : goal.returns-else-has_others-clause-value
returns-else-has_others-clause-value g c =
    let agree1 = λ (x y : g.row.T.Denot). g.T.K1.PartialEq.eq (g.T.TriHashItem.key1 x) (g.T.TriHashItem.key1 y) in
    let agree2 = λ (x y : g.row.T.Denot). g.T.K2.PartialEq.eq (g.T.TriHashItem.key2 x) (g.T.TriHashItem.key2 y) in
    let agree3 = λ (x y : g.row.T.Denot). g.T.K3.PartialEq.eq (g.T.TriHashItem.key3 x) (g.T.TriHashItem.key3 y) in
    let named = rw (c.key1.ensures, ← c.item_of.ensures) at c.slot1_of.ensures.found.only in
    let partner = partner_some agree1 (agree2 ∷ agree3 ∷ []) g.T.PartialEq.eq (bag c.args.self.now) c.args.item.now _ c.in-Some.found.now named (ap option_copied c.in-Some.is) in
    let differs = rw (c.key2.ensures, c.key3.ensures) at c.has_others.ensures.value in
    c.if-has_others.false ∙ sym (partner ∙ rw (sym differs ∙ c.if-has_others.false) refl)

pub returns-in-None-clause-value : goal.returns-in-None-clause-value
returns-in-None-clause-value g c =
    let agree1 = λ (x y : g.row.T.Denot). g.T.K1.PartialEq.eq (g.T.TriHashItem.key1 x) (g.T.TriHashItem.key1 y) in
    let agree2 = λ (x y : g.row.T.Denot). g.T.K2.PartialEq.eq (g.T.TriHashItem.key2 x) (g.T.TriHashItem.key2 y) in
    let agree3 = λ (x y : g.row.T.Denot). g.T.K3.PartialEq.eq (g.T.TriHashItem.key3 x) (g.T.TriHashItem.key3 y) in
    let named = rw (c.key1.ensures, ← c.item_of.ensures) at c.slot1_of.ensures.found.only in
    sym (partner_none agree1 (agree2 ∷ agree3 ∷ []) g.T.PartialEq.eq (bag c.args.self.now) c.args.item.now _ named (ap option_copied c.in-None.is))

pub returns-then-has_others-clause-costs : goal.returns-then-has_others-clause-costs
returns-then-has_others-clause-costs g c =
    record {
      answer = _;
      between = c.slot1_of.new.costs.asked;
      search = rw (c.key1.ensures, ← c.has_others.ensures.probed) at c.slot1_of.ensures.costs;
      rest = omega (arith, c.has_others.ensures.asked);
    }

pub returns-else-has_others-clause-costs : goal.returns-else-has_others-clause-costs
returns-else-has_others-clause-costs g c =
    record {
      answer = _;
      between = c.slot1_of.new.costs.asked;
      search = rw (c.key1.ensures, ← c.has_others.ensures.probed) at c.slot1_of.ensures.costs;
      rest = omega (arith, c.has_others.ensures.asked);
    }

pub returns-in-None-clause-costs : goal.returns-in-None-clause-costs
returns-in-None-clause-costs g c = record { answer = _; between = c.slot1_of.new.costs.asked; search = rw c.key1.ensures at c.slot1_of.ensures.costs; rest = omega arith }
