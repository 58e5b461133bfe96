use Rattle.std.proofs.Common.{[], ◌∷◌, sym, subst}
use Rattle.iddqd_store.specs.Bag.Calling.{TakesInTurn}
use Rattle.iddqd_store.specs.Rank.{agree}
use Rattle.iddqd_store.proofs.SlotLemmas.Kept.{finds_still}
use Rattle.iddqd_bi.specs.Keys.{key_tests}
use Rattle.iddqd_bi.proofs.MapLemmas.{AreKeyTests-queries, AreLawful-ranks}
use Rattle.iddqd_bi.proofs.entry.OccupiedEntry.for_each.Goals as goal

pub store_found-requires-clause-callable : goal.store_found-requires-clause-callable
store_found-requires-clause-callable g c = subst (λ l. TakesInTurn g.F.FnMut c.args.f l) (sym c.requires.has_found.listed) c.requires.callable

pub returns-clause-has_found : goal.returns-clause-has_found
returns-clause-has_found g c =
    let o = c.args.self.now in
    let tests = key_tests g.T.BiHashItem g.Q1.Query.stands_for g.Q2.Query.stands_for o.query1 o.query2 in
    let keys = AreKeyTests-queries g.T.BiHashItem g.T.K1.PartialEq.eq g.T.K2.PartialEq.eq g.Q1.Query.stands_for
    g.Q2.Query.stands_for g.met.Q1.Query.respects_eq g.met.Q2.Query.respects_eq o.query1 o.query2 in
    let stored = c.store_found in
    let still = finds_still (agree g.T.BiHashItem.key1 g.T.K1.PartialEq.eq)
    (agree g.T.BiHashItem.key2 g.T.K2.PartialEq.eq ∷ []) (AreLawful-ranks g.T.BiHashItem g.met.T.K1.Eq.laws g.met.T.K2.Eq.laws)
    tests keys o.map.now.slots stored.new.self.slots stored.ensures.keeps_keys stored.ensures.sound o.slot1
    (o.slot2 ∷ []) c.requires.has_found.found c.requires.has_found.listed c.requires.has_found.some in
    record { found = still.found_each; value = still.value; listed = still.listed; some = still.some }
