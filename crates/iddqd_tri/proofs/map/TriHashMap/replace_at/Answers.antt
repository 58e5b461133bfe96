-- Made by tests/widths from crates/iddqd_bi/proofs/map/BiHashMap/replace_at/Answers.antt: change that file.
use Rattle.std.proofs.Common.{sym, ap, ◌∙◌, arith}
use Rattle.iddqd_store.specs.Map.{Map, hash_of}
use Rattle.iddqd_store.specs.Slots.{get}
use Rattle.iddqd_store.proofs.RankLemmas.Exchanged.{IsIndexed-exchange, exchange_swaps}
use Rattle.iddqd_tri.proofs.MapLemmas.{AreLawful-ranks, agrees-keys}
use Rattle.iddqd_tri.proofs.map.TriHashMap.replace_at.Goals as goal

pub invariant_of-self : goal.invariant_of-self
invariant_of-self g c =
    let laws1 = g.met.T.K1.Eq.laws in
    let laws2 = g.met.T.K2.Eq.laws in
    let laws3 = g.met.T.K3.Eq.laws in
    let hash = hash_of g.S.BuildHasher g.S.Hasher.Hasher c.self.inside.hash_builder in
    let at = ap (λ (m : Map g.row.T.Denot g.row.S.Denot). get m.slots c.args.slot) (sym c.self.view_is) ∙ c.replace.ensures.value in
    let same = c.requires.same_keys c.replace.result at in
    let same1 = same.0 in
    let same2 = same.1 in
    let same3 = same.2 in
    IsIndexed-exchange (AreLawful-ranks g.T.TriHashItem laws1 laws2 laws3) (omega arith) c.self.invariant c.args.slot c.replace.result c.args.item _ c.replace.ensures.members
    (agrees-keys g.T.TriHashItem g.T.K1.PartialEq.eq g.T.K2.PartialEq.eq g.T.K3.PartialEq.eq c.replace.result c.args.item same1 same2 same3)
    (sym (ap hash (g.met.T.K1.Hash.respects_eq _ _ same1)), (sym (ap hash (g.met.T.K2.Hash.respects_eq _ _ same2)), (sym (ap hash (g.met.T.K3.Hash.respects_eq _ _ same3)), tt)))

pub returns-clause-swaps : goal.returns-clause-swaps
returns-clause-swaps g c =
    rw (← c.self.view_is) (exchange_swaps (AreLawful-ranks g.T.TriHashItem g.met.T.K1.Eq.laws g.met.T.K2.Eq.laws g.met.T.K3.Eq.laws)
    (omega arith) c.self.invariant c.args.slot c.replace.result c.args.item _ c.replace.ensures.members)
