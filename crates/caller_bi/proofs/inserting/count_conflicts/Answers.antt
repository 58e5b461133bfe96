use Rattle.std.proofs.Common.{rules, arith, ◌≡◌, [], length, ap, sym, ◌∙◌, inl, inr}
use Rattle.std.proofs.lemmas.List.{nil_from_length}
use Rattle.iddqd_bi.specs.Bag.{conflicts_of, conflicting}
use Rattle.iddqd_bi.specs.Map.{bag}
use Rattle.iddqd_bi.proofs.CallerLemmas.{length-conflicts_of}
use Rattle.caller_bi.proofs.inserting.count_conflicts.Goals as goal

-- as many items are listed as conflict
pub returns-in-Ok-clause-count : goal.returns-in-Ok-clause-count
returns-in-Ok-clause-count g c =
    ap length (sym c.in-Ok.ensures.free) ∙ length-conflicts_of g.T.Ranked.ranks (bag c.args.map.now) c.args.item

pub returns-in-Err-clause-went_in : goal.returns-in-Err-clause-went_in
returns-in-Err-clause-went_in g c none room =
    let ranks = g.T.Ranked.ranks in
    let there = bag c.args.map.now in
    let count : c.len-count.result ≡ length (conflicting ranks there c.args.item) = search rules in
    let empty : conflicts_of ranks there c.args.item ≡ [] = nil_from_length _ (length-conflicts_of ranks there c.args.item ∙ sym count ∙ none) in
    elim c.in-Err.ensures.reason [ inl some ↦ absurd (some empty) | inr full ↦ absurd (let e = full.full in omega (arith, e, room)) ]
