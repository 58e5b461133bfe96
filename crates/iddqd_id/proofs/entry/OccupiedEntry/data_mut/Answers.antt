-- Written by hand; tests/one_key.patch says why.
use Rattle.std.proofs.Common.{rules, ◌∙◌}
use Rattle.iddqd_store.proofs.SlotLemmas.Entries.{found_only}
use Rattle.iddqd_id.proofs.FoundLemmas.{finds_written}
use Rattle.iddqd_id.proofs.entry.OccupiedEntry.data_mut.Goals as goal

pub returns : goal.returns
returns g c =
    let o = c.args.self.now in
    let laws = g.met.T.Key.Eq.laws in
    let put = g.T.IdHashItemMut.put in (
      search rules,
      record {
        lends = tt;
        value = λ x is. c.data_mut_at.ensures.value x (found_only _ x _ c.requires.only is);
        swaps = λ x d is. c.data_mut_at.ensures.swaps x d (found_only _ x _ c.requires.only is);
        has_found = λ d.
            finds_written g.T.IdHashItem g.T.Key.PartialEq.eq laws g.Q.Query.stands_for g.met.Q.Query.respects_eq o (λ x. put x d)
            (λ x. laws.symm _ _ ∙ g.met.T.IdHashItemMut.keeps_key x d) c.requires c.data_mut_at.ensures.sound (λ x is. c.data_mut_at.ensures.swaps x d is);
      },
    )
