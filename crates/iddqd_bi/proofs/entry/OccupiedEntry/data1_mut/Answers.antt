use Rattle.std.proofs.Common.{rules, [], ◌∷◌, ◌∙◌}
use Rattle.iddqd_store.specs.Rank.{agree}
use Rattle.iddqd_store.proofs.MapLemmas.Written.{finds_written}
use Rattle.iddqd_store.proofs.SlotLemmas.Entries.{found_data, found_only}
use Rattle.iddqd_bi.specs.Keys.{key_tests}
use Rattle.iddqd_bi.proofs.MapLemmas.{AreKeyTests-queries, AreLawful-ranks, agrees-keys}
use Rattle.iddqd_bi.proofs.entry.OccupiedEntry.data1_mut.Goals as goal

pub returns : goal.returns
returns g c =
    let o = c.args.self.now in
    let eq1 = g.T.K1.PartialEq.eq in
    let eq2 = g.T.K2.PartialEq.eq in
    let of = g.T.BiHashItem in
    let laws1 = g.met.T.K1.Eq.laws in
    let laws2 = g.met.T.K2.Eq.laws in
    let put = g.T.BiHashItemMut.put in
    let tests = key_tests of g.Q1.Query.stands_for g.Q2.Query.stands_for o.query1 o.query2 in
    let keys = AreKeyTests-queries of eq1 eq2 g.Q1.Query.stands_for g.Q2.Query.stands_for
    g.met.Q1.Query.respects_eq g.met.Q2.Query.respects_eq o.query1 o.query2 in (
      search rules,
      record {
        lends = tt;
        value = found_data _ g.T.BiHashItemMut.data_of _ _ c.requires.found.0 c.data_mut_of.result c.data_mut_of.ensures.some c.data_mut_of.ensures.value;
        swaps = λ x d is. c.data_mut_of.ensures.swaps x d (found_only _ x _ c.requires.found.0.only is);
        has_found = λ d.
            let still = finds_written (agree of.key1 eq1)
            (agree of.key2 eq2 ∷ []) (AreLawful-ranks of laws1 laws2) tests keys o.map.now o.slot1 (o.slot2 ∷ []) o.slot1 (λ x. put x d)
            (λ x. agrees-keys of eq1 eq2 x (put x d) (laws1.symm _ _ ∙ g.met.T.BiHashItemMut.keeps_key1 x d)
            (laws2.symm _ _ ∙ g.met.T.BiHashItemMut.keeps_key2 x d))
            c.requires.found.0.live c.data_mut_of.ensures.sound (λ x is. c.data_mut_of.ensures.swaps x d is)
            (record { found_each = c.requires.found; value = c.requires.value; listed = c.requires.listed; some = c.requires.some }) in
            record { found = still.found_each; value = still.value; listed = still.listed; some = still.some };
      },
    )
