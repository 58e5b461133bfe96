-- Made by tests/widths from crates/iddqd_bi/proofs/map/compare/BiHashMapPartialEq/eq/Answers.antt: change that file.
use Rattle.std.proofs.Common.{arith, sym, ◌∙◌, rules}
use Rattle.iddqd_store.specs.Map.{bag}
use Rattle.iddqd_store.proofs.BagLemmas.Partners.{same_decides, told_same, told_longer, told_alone}
use Rattle.iddqd_id.specs.Keys.{ranks}
use Rattle.iddqd_id.proofs.MapLemmas.{AreLawful-ranks}
use Rattle.iddqd_id.proofs.map.compare.IdHashMapPartialEq.eq.Goals as goal

pub returns-then-len-clause-eq : goal.returns-then-len-clause-eq
returns-then-len-clause-eq g c =
    let ranks = ranks g.T.IdHashItem g.T.Key.PartialEq.eq in
    let laws = AreLawful-ranks g.T.IdHashItem g.met.T.Key.Eq.laws in
    sym (told_longer ranks g.T.PartialEq.eq laws g.met.T.PartialEq.laws (bag c.args.self.now) (bag c.args.other.now) (λ same. c.if-len.true (c.len.ensures.value ∙ same ∙ sym c.len-2.ensures.value)))

pub returns-then-len-clause-same : goal.returns-then-len-clause-same
returns-then-len-clause-same g c =
    let ranks = ranks g.T.IdHashItem g.T.Key.PartialEq.eq in
    let laws = AreLawful-ranks g.T.IdHashItem g.met.T.Key.Eq.laws in
    same_decides ranks g.T.PartialEq.eq laws g.met.T.PartialEq.laws (bag c.args.self.now) (bag c.args.other.now) _ (returns-then-len-clause-eq g c)

pub returns-then-not-has_partner-clause-eq : goal.returns-then-not-has_partner-clause-eq
returns-then-not-has_partner-clause-eq g c =
    let ranks = ranks g.T.IdHashItem g.T.Key.PartialEq.eq in
    let laws = AreLawful-ranks g.T.IdHashItem g.met.T.Key.Eq.laws in
    sym (told_alone ranks g.T.PartialEq.eq laws g.met.T.PartialEq.laws (bag c.args.self.now) (bag c.args.other.now) (search rules))

pub returns-then-not-has_partner-clause-same : goal.returns-then-not-has_partner-clause-same
returns-then-not-has_partner-clause-same g c =
    let ranks = ranks g.T.IdHashItem g.T.Key.PartialEq.eq in
    let laws = AreLawful-ranks g.T.IdHashItem g.met.T.Key.Eq.laws in
    same_decides ranks g.T.PartialEq.eq laws g.met.T.PartialEq.laws (bag c.args.self.now) (bag c.args.other.now) _ (returns-then-not-has_partner-clause-eq g c)

pub returns-clause-eq : goal.returns-clause-eq
returns-clause-eq g c =
    let ranks = ranks g.T.IdHashItem g.T.Key.PartialEq.eq in
    let laws = AreLawful-ranks g.T.IdHashItem g.met.T.Key.Eq.laws in
    sym (told_same ranks g.T.PartialEq.eq laws g.met.T.PartialEq.laws (bag c.args.self.now) (bag c.args.other.now)
    (omega arith) c.len.ensures.sound (sym c.len.ensures.value ∙ c.if-len.false ∙ c.len-2.ensures.value) (search rules))

pub returns-clause-same : goal.returns-clause-same
returns-clause-same g c =
    let ranks = ranks g.T.IdHashItem g.T.Key.PartialEq.eq in
    let laws = AreLawful-ranks g.T.IdHashItem g.met.T.Key.Eq.laws in
    same_decides ranks g.T.PartialEq.eq laws g.met.T.PartialEq.laws (bag c.args.self.now) (bag c.args.other.now) _ (returns-clause-eq g c)
