use Rattle.std.proofs.Common.{not, sym, ap, ◌∙◌}
use Rattle.std.specs.Ordering.{is_eq}
use Rattle.std.specs.declared.cmp.Ordering.{Ordering}
use Rattle.iddqd_ord.specs.Ordered.{IsRising-at}
use Rattle.iddqd_ord.proofs.GapLemmas.{gap_for}
use Rattle.iddqd_ord.proofs.map.IdOrdMap.insert_free.Goals as goal

pub insert_or_refuse-requires-clause-gap : goal.insert_or_refuse-requires-clause-gap
insert_or_refuse-requires-clause-gap g c =
    let key = g.T.IdOrdItem.key in
    let compare : g.row.T.Denot → Ordering = λ x. g.Q.OrdQuery.compare c.args.query (key x) in
    let rises = IsRising-at g.T.Key.Ord.cmp key (g.Q.OrdQuery.compare c.args.query) (g.met.Q.OrdQuery.rises c.args.query) in
    let here = sym (c.compare.ensures ∙ ap (g.Q.OrdQuery.compare c.args.query) c.key.ensures) ∙ c.in-Equal.is in
    gap_for g.met.T.Key.Ord.total key compare rises c.args.item here _ _ c.requires.1

pub returns-in-Err-clause-hands_back : goal.returns-in-Err-clause-hands_back
returns-in-Err-clause-hands_back g c =
    let here = sym (c.compare.ensures ∙ ap (g.Q.OrdQuery.compare c.args.query) c.key.ensures) ∙ c.in-Equal.is in
    record {
      handed_back = c.in-Err.ensures.handed_back;
      other_key = sym (ap (λ (o : Ordering). not (is_eq o)) here);
      memory = λ _. record { free = c.in-Err.ensures.free; full = c.in-Err.ensures.full };
    }
