use Rattle.std.proofs.Common.{List, [], subst, rules}
use Rattle.std.specs.Prelude.{IsPermutation}
use Rattle.iddqd_store.specs.Bag.{with_items}
use Rattle.iddqd_store.specs.Map.{bag}
use Rattle.iddqd_store.proofs.BagLemmas.Building.{GivesThen-weaker, conflicts_of-none}
use Rattle.iddqd_store.proofs.MapLemmas.{at_err}
use Rattle.iddqd_bi.proofs.map.BiHashMap.from_iter.Goals as goal

pub returns-in_err-extend-clause-refused : goal.returns-in_err-extend-clause-refused
returns-in_err-extend-clause-refused g c =
    let ranks = g.T.Ranked.ranks in
    let x = c.in_err-extend.field-0.0.value in
    at_err c.from_residual.result c.in_err-extend.field-0.0 _ (search rules)
    (GivesThen-weaker g.I.IntoIterator.into_iter_gives g.I.IntoIter.Iterator.next_gives c.args.iter x _ _
    (λ xs made. conflicts_of-none ranks (bag c.extend.new.self) (with_items ranks [] xs) x
    (subst (λ (l : List g.row.T.Denot). IsPermutation (bag c.extend.new.self) (with_items ranks l xs)) c.default-map.ensures.empty made.items) c.in_err-extend.ensures.full.free)
    c.in_err-extend.ensures.refused)

pub returns-clause-all : goal.returns-clause-all
returns-clause-all g c = rw (c.default-map.ensures.empty, c.default-map.ensures.capacity) at c.in_ok-extend.ensures.all

pub returns-clause-builder : goal.returns-clause-builder
returns-clause-builder g c = rw c.in_ok-extend.ensures.grows_unless.same_builder c.default-map.ensures.builder
