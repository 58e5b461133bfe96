use Rattle.std.proofs.Common.{◌≡◌, false, List, ap, subst, ◌∙◌, arith, length, rules}
use Rattle.std.specs.List.{list_any}
use Rattle.iddqd_store.proofs.BagLemmas.Building.{GivesThen-weaker}
use Rattle.iddqd_store.proofs.MapLemmas.{at_err}
use Rattle.iddqd_ord.specs.Extensions.{with_items}
use Rattle.iddqd_ord.specs.Items.{has_key_of}
use Rattle.iddqd_ord.proofs.map.IdOrdMap.from_iter.Goals as goal

pub returns-in_err-extend-clause-refused : goal.returns-in_err-extend-clause-refused
returns-in_err-extend-clause-refused g c =
    let of = g.T.IdOrdItem in
    let cmp = g.T.Key.Ord.cmp in
    let failed = c.in_err-extend.ensures in
    let x = c.in_err-extend.field-0.0.value in
    at_err c.from_residual.result c.in_err-extend.field-0.0 _ (search rules)
    (GivesThen-weaker g.I.IntoIterator.into_iter_gives g.I.IntoIter.Iterator.next_gives c.args.iter x _ _
    (λ xs made. subst (λ (l : List g.row.T.Denot). list_any (has_key_of of cmp x) l ≡ false)
    (made.lists ∙ ap (λ (l : List g.row.T.Denot). with_items of cmp l xs) c.new-map.ensures.empty) failed.full.free)
    failed.refused)

pub returns-clause-most : goal.returns-clause-most
returns-clause-most g c =
    let made = c.in_ok-extend.ensures.all in
    (made.0, made.1, made.2, made.3, omega (arith, made.4.most, ap length c.new-map.ensures.empty, c.new-map.ensures.capacity))
