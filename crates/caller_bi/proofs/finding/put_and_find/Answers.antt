use Rattle.std.proofs.Common.{◌∙◌}
use Rattle.std.specs.Prelude.{[], ◌∷◌}
use Rattle.iddqd_bi.specs.Bag.{tests_of, remainder}
use Rattle.iddqd_bi.specs.Map.{bag}
use Rattle.iddqd_bi.specs.Rank.{agree}
use Rattle.iddqd_bi.proofs.CallerLemmas.{NamesOne-query, contains-inserted}
use Rattle.iddqd_bi.specs.Keys.{ranks, has1}
use Rattle.caller_bi.proofs.finding.put_and_find.Goals as goal

-- the item that was inserted is found by its key
pub returns-in-Ok : goal.returns-in-Ok
returns-in-Ok g c =
    let eq1 = g.T.K1.PartialEq.eq in
    let ranks = ranks g.T.BiHashItem g.T.K1.PartialEq.eq g.T.K2.PartialEq.eq in
    c.contains_key1.ensures
    ∙ contains-inserted [] (agree g.T.BiHashItem.key2 g.T.K2.PartialEq.eq ∷ []) (agree g.T.BiHashItem.key1 eq1)
    (has1 g.T.BiHashItem eq1 c.args.key.now) (NamesOne-query eq1 eq1 g.T.BiHashItem.key1 g.met.T.K1.Eq.laws.congr c.args.key.now)
    (bag c.insert_overwrite.new.self) c.len-len.ensures.sound
    (remainder (tests_of ranks c.args.item) (bag c.args.map.now)) c.args.item c.in-Ok.ensures.overwrites.items c.requires.has
