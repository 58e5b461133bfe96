-- Written by hand; tests/three_keys.patch says why.
use Rattle.std.proofs.Common.{sym, ◌∙◌}
use Rattle.std.specs.Prelude.{[], ◌∷◌}
use Rattle.iddqd_tri.specs.Map.{bag}
use Rattle.iddqd_tri.specs.Rank.{agree}
use Rattle.iddqd_tri.proofs.CallerLemmas.Laws.{gone-key}
use Rattle.iddqd_tri.proofs.MapLemmas.{AreLawful-ranks}
use Rattle.caller_tri.proofs.laws.leaving.remove2_and_find_keys.Goals as goal

-- no item that is left has a key of the one that is gone
pub returns-then-contains_key1 : goal.returns-then-contains_key1
returns-then-contains_key1 g c =
    sym c.if-contains_key1.true ∙ c.contains_key1.ensures ∙ gone-key []
    (agree g.T.TriHashItem.key2 g.T.K2.PartialEq.eq ∷ agree g.T.TriHashItem.key3 g.T.K3.PartialEq.eq ∷ []) g.T.TriHashItem.key1 g.T.K1.PartialEq.eq
    (AreLawful-ranks g.T.TriHashItem g.met.T.K1.Eq.laws g.met.T.K2.Eq.laws g.met.T.K3.Eq.laws) (bag c.args.map.now)
    (bag c.remove2.new.self) c.in-Some.item c.key1.result.now c.len-len.ensures.sound c.in-Some.ensures.loses.items c.key1.ensures

pub returns-then-contains_key2 : goal.returns-then-contains_key2
returns-then-contains_key2 g c =
    sym c.if-contains_key2.true ∙ c.contains_key2.ensures ∙ gone-key (agree g.T.TriHashItem.key1 g.T.K1.PartialEq.eq ∷ [])
    (agree g.T.TriHashItem.key3 g.T.K3.PartialEq.eq ∷ []) g.T.TriHashItem.key2 g.T.K2.PartialEq.eq
    (AreLawful-ranks g.T.TriHashItem g.met.T.K1.Eq.laws g.met.T.K2.Eq.laws g.met.T.K3.Eq.laws) (bag c.args.map.now)
    (bag c.remove2.new.self) c.in-Some.item c.key2.result.now c.len-len.ensures.sound c.in-Some.ensures.loses.items c.key2.ensures

pub returns-else-contains_key2 : goal.returns-else-contains_key2
returns-else-contains_key2 g c =
    c.contains_key3.ensures ∙ gone-key (agree g.T.TriHashItem.key1 g.T.K1.PartialEq.eq ∷ agree g.T.TriHashItem.key2 g.T.K2.PartialEq.eq ∷ [])
    [] g.T.TriHashItem.key3 g.T.K3.PartialEq.eq
    (AreLawful-ranks g.T.TriHashItem g.met.T.K1.Eq.laws g.met.T.K2.Eq.laws g.met.T.K3.Eq.laws) (bag c.args.map.now)
    (bag c.remove2.new.self) c.in-Some.item c.key3.result.now c.len-len.ensures.sound c.in-Some.ensures.loses.items c.key3.ensures
