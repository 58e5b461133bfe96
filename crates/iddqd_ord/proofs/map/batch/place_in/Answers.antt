use Rattle.std.proofs.Common.{[], sym, ◌∙◌, arith}
use Rattle.std.proofs.lemmas.Result.{IfOk-weaker, IfErr-weaker}
use Rattle.std.proofs.lemmas.List.Sorted.{list_any-IsPermutation}
use Rattle.iddqd_order.specs.Row.{entries_in}
use Rattle.iddqd_ord.specs.Items.{key_comparison, has_key_of}
use Rattle.iddqd_ord.specs.Ordered.{IsRising-key, IsSeeking-rising}
use Rattle.iddqd_ord.specs.Extensions.{with_items}
use Rattle.iddqd_ord.proofs.BatchLemmas.{all_asked, searchable_picked, split_picked, found_picked, IsOrderOf-length}
use Rattle.iddqd_ord.proofs.OrderLemmas.{searchable}
use Rattle.iddqd_ord.proofs.map.batch.place_in.Goals as goal

pub search-requires-clause-asks : goal.search-requires-clause-asks
search-requires-clause-asks g c =
    let compare = key_comparison g.T.IdOrdItem g.T.Key.Ord.cmp c.args.item.now in
    all_asked compare c.args.list.now (entries_in c.args.numbers.now) (with_items g.T.IdOrdItem g.T.Key.Ord.cmp [] c.args.list.now) c.requires.picks

pub search-requires-clause-ordered : goal.search-requires-clause-ordered
search-requires-clause-ordered g c =
    let key = g.T.IdOrdItem.key in
    let compare = key_comparison g.T.IdOrdItem g.T.Key.Ord.cmp c.args.item.now in
    let sorted = with_items g.T.IdOrdItem g.T.Key.Ord.cmp [] c.args.list.now in
    let rises = searchable g.T.Key.Ord.cmp key sorted c.requires.ascending compare (IsSeeking-rising (IsRising-key g.met.T.Key.Ord.total key (key c.args.item.now))) in
    searchable_picked compare c.args.list.now (entries_in c.args.numbers.now) sorted c.requires.picks rises

pub returns-clause-found : goal.returns-clause-found
returns-clause-found g c =
    let compare = key_comparison g.T.IdOrdItem g.T.Key.Ord.cmp c.args.item.now in
    let sorted = with_items g.T.IdOrdItem g.T.Key.Ord.cmp [] c.args.list.now in
    IfOk-weaker c.search.result _ _ (λ p found.
    (sym (list_any-IsPermutation (has_key_of g.T.IdOrdItem g.T.Key.Ord.cmp c.args.item.now) sorted c.args.list.now c.requires.same)
    ∙ found_picked compare c.args.list.now (entries_in c.args.numbers.now) sorted c.requires.picks _ found)) c.search.ensures.found

pub returns-clause-gap : goal.returns-clause-gap
returns-clause-gap g c =
    let compare = key_comparison g.T.IdOrdItem g.T.Key.Ord.cmp c.args.item.now in
    let sorted = with_items g.T.IdOrdItem g.T.Key.Ord.cmp [] c.args.list.now in
    IfErr-weaker c.search.result _ _ (λ p gap.
    split_picked compare c.args.list.now (entries_in c.args.numbers.now) sorted c.requires.picks _ 0 gap) c.search.ensures.gap

pub returns-clause-asked : goal.returns-clause-asked
returns-clause-asked g c = λ r few.
    omega (arith, c.search.ensures.asked r (rw (IsOrderOf-length g.T.IdOrdItem g.T.Key.Ord.cmp c.args.list.now (entries_in c.args.numbers.now) c.requires) few))
