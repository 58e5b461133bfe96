use Rattle.std.proofs.Common.{rules, ◌≡◌, subst, ap, ◌∙◌, IfOk}
use Rattle.std.proofs.lemmas.Iterator.Consumers.{YieldsList-from_copied, YieldsList-from_first}
use Rattle.std.proofs.lemmas.Iterator.{items_from_collect}
use Rattle.std.proofs.lemmas.List.Sorted.{IsNonDecreasingBy-from_sort, answers_always}
use Rattle.iddqd_text.specs.Sorted.{by_first_key, first_key}
use Rattle.iddqd_text.proofs.Sorting.{by_first_key-from_sort}
use Rattle.iddqd_text.proofs.print.by_first_key.Goals as goal

pub returns : goal.returns
returns g c =
    let keys = answers_always _ _ _ (λ f a r next called. search rules) in
    let copied : IfOk c.collect.result (λ found. found.items ≡ c.args.items) =
    items_from_collect c.collect.result c.collect.ensures.ran (YieldsList-from_copied (YieldsList-from_first (λ x. x.now) (λ rest. rest) c.args.items (search rules))) in
    let kept : c.in_ok-sorted.sorted.items ≡ c.args.items = subst (λ r. IfOk r (λ found. found.items ≡ c.args.items)) c.in_ok-sorted.was copied in
    by_first_key-from_sort g.T.Numbers.numbers _ _
    (IsNonDecreasingBy-from_sort (first_key g.T.Numbers.numbers) _ (c.in_ok-sort_by_key.ensures.sorted (first_key g.T.Numbers.numbers) keys))
    (c.sort_by_key.ensures.stable (first_key g.T.Numbers.numbers) keys)
    ∙ ap (by_first_key g.T.Numbers.numbers) kept
