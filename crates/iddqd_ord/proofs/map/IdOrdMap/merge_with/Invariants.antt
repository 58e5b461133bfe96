use Rattle.std.proofs.Common.{◌≡◌, ◌≤◌, ◌+◌, [], ◌++◌, None, length, map}
use Rattle.std.specs.Option.{option_copied, option_to_list}
use Rattle.iddqd_ord.specs.Items.{items}
use Rattle.iddqd_ord.proofs.DifferenceLemmas.{Merged}
use Rattle.iddqd_ord.proofs.map.IdOrdMap.merge_with.Given as goal

-- what is left of both maps, and what was found so far
abbrev pub invariant-loop-next_old : goal.invariant-loop-next_old
invariant-loop-next_old g l =
    let olds = option_to_list (option_copied l.next_old) ++ l.olds in
    let news = option_to_list (option_copied l.next_new) ++ l.news in
    Merged g.T.IdOrdItem g.T.Key.Ord.cmp (items l.self) (items l.new) olds news (map (λ x. x.now) l.removed.items) (map (λ x. x.now) l.added.items) l.common.items
    × (l.next_old ≡ None → l.olds ≡ []) × (l.next_new ≡ None → l.news ≡ [])
    × (l.meter + length olds + length news ≤ l.initial.meter + length (items l.self) + length (items l.new))

abbrev pub decreases-loop-next_old : goal.decreases-loop-next_old
decreases-loop-next_old g l = length (option_to_list (option_copied l.next_old) ++ l.olds) + length (option_to_list (option_copied l.next_new) ++ l.news)
