use Rattle.std.proofs.Common.{◌∙◌}
use Rattle.std.specs.Prelude.{[], ◌∷◌}
use Rattle.iddqd_bi.specs.Map.{bag}
use Rattle.iddqd_bi.specs.Rank.{agree}
use Rattle.iddqd_bi.proofs.CallerLemmas.{NamesOne-query, contains-removed}
use Rattle.iddqd_bi.proofs.MapLemmas.{AreLawful-ranks}
use Rattle.iddqd_bi.specs.Keys.{has1}
use Rattle.caller_bi.proofs.finding.remove_and_find.Goals as goal

-- no item has the key any more
pub returns : goal.returns
returns g c =
    let eq1 = g.T.K1.PartialEq.eq in
    c.contains_key1.ensures
    ∙ contains-removed [] (agree g.T.BiHashItem.key2 g.T.K2.PartialEq.eq ∷ []) (agree g.T.BiHashItem.key1 eq1)
    (AreLawful-ranks g.T.BiHashItem g.met.T.K1.Eq.laws g.met.T.K2.Eq.laws)
    (has1 g.T.BiHashItem eq1 c.args.key.now) (NamesOne-query eq1 eq1 g.T.BiHashItem.key1 g.met.T.K1.Eq.laws.congr c.args.key.now)
    (bag c.args.map.now) (bag c.remove1.new.self) c.remove1.result c.len-len.ensures.sound c.remove1.ensures.taken c.remove1.ensures.loses.items
