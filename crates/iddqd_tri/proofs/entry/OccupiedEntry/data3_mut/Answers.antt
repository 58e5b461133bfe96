-- Made by tests/widths from crates/iddqd_bi/proofs/entry/OccupiedEntry/data2_mut/Answers.antt: change that file.
use Rattle.std.proofs.Common.{rules, [], ◌∷◌, ◌∙◌}
use Rattle.iddqd_store.specs.Rank.{agree}
use Rattle.iddqd_store.proofs.MapLemmas.Written.{finds_written}
use Rattle.iddqd_store.proofs.SlotLemmas.Entries.{found_data, found_only}
use Rattle.iddqd_tri.specs.Keys.{key_tests}
use Rattle.iddqd_tri.proofs.MapLemmas.{AreKeyTests-queries, AreLawful-ranks, agrees-keys}
use Rattle.iddqd_tri.proofs.entry.OccupiedEntry.data3_mut.Goals as goal

pub returns : goal.returns
returns g c =
    let o = c.args.self.now in
    let eq1 = g.T.K1.PartialEq.eq in
    let eq2 = g.T.K2.PartialEq.eq in
    let eq3 = g.T.K3.PartialEq.eq in
    let of = g.T.TriHashItem in
    let laws1 = g.met.T.K1.Eq.laws in
    let laws2 = g.met.T.K2.Eq.laws in
    let laws3 = g.met.T.K3.Eq.laws in
    let put = g.T.TriHashItemMut.put in
    let tests = key_tests of g.Q1.Query.stands_for g.Q2.Query.stands_for g.Q3.Query.stands_for o.query1 o.query2 o.query3 in
    let keys = AreKeyTests-queries of eq1 eq2 eq3 g.Q1.Query.stands_for g.Q2.Query.stands_for g.Q3.Query.stands_for
    g.met.Q1.Query.respects_eq g.met.Q2.Query.respects_eq g.met.Q3.Query.respects_eq o.query1 o.query2 o.query3 in (
      search rules,
      record {
        lends = tt;
        value = found_data _ g.T.TriHashItemMut.data_of _ _ c.requires.found.1.1.0 c.data_mut_of.result c.data_mut_of.ensures.some c.data_mut_of.ensures.value;
        swaps = λ x d is. c.data_mut_of.ensures.swaps x d (found_only _ x _ c.requires.found.1.1.0.only is);
        has_found = λ d.
            let still = finds_written (agree of.key1 eq1)
            (agree of.key2 eq2 ∷ agree of.key3 eq3 ∷ []) (AreLawful-ranks of laws1 laws2 laws3) tests keys o.map.now o.slot1 (o.slot2 ∷ o.slot3 ∷ []) o.slot3 (λ x. put x d)
            (λ x. agrees-keys of eq1 eq2 eq3 x (put x d) (laws1.symm _ _ ∙ g.met.T.TriHashItemMut.keeps_key1 x d)
            (laws2.symm _ _ ∙ g.met.T.TriHashItemMut.keeps_key2 x d)
            (laws3.symm _ _ ∙ g.met.T.TriHashItemMut.keeps_key3 x d))
            c.requires.found.1.1.0.live c.data_mut_of.ensures.sound (λ x is. c.data_mut_of.ensures.swaps x d is)
            (record { found_each = c.requires.found; value = c.requires.value; listed = c.requires.listed; some = c.requires.some }) in
            record { found = still.found_each; value = still.value; listed = still.listed; some = still.some };
      },
    )
