use Rattle.std.proofs.Common.{sym, ◌∙◌}
use Rattle.std.specs.Prelude.{[], ◌∷◌}
use Rattle.iddqd_bi.specs.Map.{bag}
use Rattle.iddqd_bi.specs.Rank.{agree}
use Rattle.iddqd_bi.proofs.CallerLemmas.Laws.{gone-key}
use Rattle.iddqd_bi.proofs.MapLemmas.{AreLawful-ranks}
use Rattle.caller_bi.proofs.laws.leaving.remove1_and_find_keys.Goals as goal

-- no item that is left has a key of the one that is gone
pub returns-then-contains_key1 : goal.returns-then-contains_key1
returns-then-contains_key1 g c =
    sym c.if-contains_key1.true ∙ c.contains_key1.ensures ∙ gone-key [] (agree g.T.BiHashItem.key2 g.T.K2.PartialEq.eq ∷ []) g.T.BiHashItem.key1
    g.T.K1.PartialEq.eq (AreLawful-ranks g.T.BiHashItem g.met.T.K1.Eq.laws g.met.T.K2.Eq.laws) (bag c.args.map.now)
    (bag c.remove1.new.self) c.in-Some.item c.key1.result.now c.len-len.ensures.sound c.in-Some.ensures.loses.items c.key1.ensures

pub returns-else-contains_key1 : goal.returns-else-contains_key1
returns-else-contains_key1 g c =
    c.contains_key2.ensures ∙ gone-key (agree g.T.BiHashItem.key1 g.T.K1.PartialEq.eq ∷ []) [] g.T.BiHashItem.key2 g.T.K2.PartialEq.eq
    (AreLawful-ranks g.T.BiHashItem g.met.T.K1.Eq.laws g.met.T.K2.Eq.laws) (bag c.args.map.now)
    (bag c.remove1.new.self) c.in-Some.item c.key2.result.now c.len-len.ensures.sound c.in-Some.ensures.loses.items c.key2.ensures
