use Rattle.std.proofs.Common.{◌≡◌, List, [], length, subst, ap, ◌∙◌, arith, rules}
use Rattle.std.specs.Prelude.{fold}
use Rattle.iddqd_store.specs.Bag.{conflicts_of}
use Rattle.iddqd_store.proofs.BagLemmas.Building.{GivesThen-weaker}
use Rattle.iddqd_store.proofs.MapLemmas.{at_err}
use Rattle.iddqd_sorted.specs.Items.{by_sort}
use Rattle.iddqd_sorted.specs.Overwriting.{overwritten}
use Rattle.iddqd_sorted.proofs.map.Sorted.from_iter.Goals as goal

pub returns-in_err-extend-clause-refused : goal.returns-in_err-extend-clause-refused
returns-in_err-extend-clause-refused g c =
    let ranks = g.M.SlotMap.ranks in
    let by = by_sort g.M.Item.Sortable.sort_key g.M.Item.SortKey.Ord.cmp g.M.SlotMap.first_key g.M.FirstKey.Ord.cmp in
    let failed = c.in_err-extend.ensures in
    let x = c.in_err-extend.field-0.0.value in
    at_err c.from_residual.result c.in_err-extend.field-0.0 _ (search rules)
    (GivesThen-weaker g.I.IntoIterator.into_iter_gives g.I.IntoIter.Iterator.next_gives c.args.iter x _ _
    (λ xs made. subst (λ (l : List g.row.M-Item.Denot). conflicts_of ranks l x ≡ [])
    (made.lists ∙ ap (λ (l : List g.row.M-Item.Denot). fold (overwritten ranks by) l xs) c.default-map.ensures.empty) failed.full.free)
    failed.refused)

pub returns-clause-all : goal.returns-clause-all
returns-clause-all g c =
    let made = c.in_ok-extend.ensures.all in
    (made.0, made.1, made.2, made.3, rw c.default-map.ensures.empty at made.4.lists)

pub returns-clause-fits : goal.returns-clause-fits
returns-clause-fits g c = c.in_ok-extend.ensures.all.4.fits

pub returns-clause-most : goal.returns-clause-most
returns-clause-most g c =
    let made = c.in_ok-extend.ensures.all in
    (made.0, made.1, made.2, made.3, omega (arith, made.4.most, ap length c.default-map.ensures.empty, c.default-map.ensures.capacity))
