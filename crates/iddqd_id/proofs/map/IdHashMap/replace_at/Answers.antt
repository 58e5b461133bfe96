-- Made by tests/widths from crates/iddqd_bi/proofs/map/BiHashMap/replace_at/Answers.antt: change that file.
use Rattle.std.proofs.Common.{sym, ap, ◌∙◌, arith}
use Rattle.iddqd_store.specs.Map.{Map, hash_of}
use Rattle.iddqd_store.specs.Slots.{get}
use Rattle.iddqd_store.proofs.RankLemmas.Exchanged.{IsIndexed-exchange, exchange_swaps}
use Rattle.iddqd_id.proofs.MapLemmas.{AreLawful-ranks, agrees-keys}
use Rattle.iddqd_id.proofs.map.IdHashMap.replace_at.Goals as goal

pub invariant_of-self : goal.invariant_of-self
invariant_of-self g c =
    let laws = g.met.T.Key.Eq.laws in
    let hash = hash_of g.S.BuildHasher g.S.Hasher.Hasher c.self.inside.hash_builder in
    let at = ap (λ (m : Map g.row.T.Denot g.row.S.Denot). get m.slots c.args.slot) (sym c.self.view_is) ∙ c.replace.ensures.value in
    let same = c.requires.same_keys c.replace.result at in
    let same = same in
    IsIndexed-exchange (AreLawful-ranks g.T.IdHashItem laws) (omega arith) c.self.invariant c.args.slot c.replace.result c.args.item _ c.replace.ensures.members
    (agrees-keys g.T.IdHashItem g.T.Key.PartialEq.eq c.replace.result c.args.item same)
    (sym (ap hash (g.met.T.Key.Hash.respects_eq _ _ same)), tt)

pub returns-clause-swaps : goal.returns-clause-swaps
returns-clause-swaps g c =
    rw (← c.self.view_is) (exchange_swaps (AreLawful-ranks g.T.IdHashItem g.met.T.Key.Eq.laws)
    (omega arith) c.self.invariant c.args.slot c.replace.result c.args.item _ c.replace.ensures.members)
