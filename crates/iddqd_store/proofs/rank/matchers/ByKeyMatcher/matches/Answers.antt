use Rattle.std.proofs.Common.{rules, ◌≡◌, ◌∙◌, Some, true, subst}
use Rattle.iddqd_store.specs.Rank.{agree}
use Rattle.iddqd_store.specs.Slots.{get}
use Rattle.iddqd_store.proofs.RankLemmas.Index.{same_slot}
use Rattle.iddqd_store.proofs.rank.matchers.ByKeyMatcher.matches.Goals as goal

-- the items in two slots have two keys
pub returns-in-Some-clause-others : goal.returns-in-Some-clause-others
returns-in-Some-clause-others g c = λ other differs may.
    let key = g.R.KeyOf.key in
    let eq = g.R.Key.PartialEq.eq in
    let laws = g.met.R.Key.Eq.laws in
    let slots = c.args.self.now.items.now.slots in
    let item = c.in-Some.item.now in
    let here : get slots c.args.slot ≡ Some item = search rules in (
      may.0,
      λ y there. c.matches.ensures.others (key y) (λ same.
          let alike : agree key eq y item ≡ true = subst (λ k. eq (key y) k ≡ true) (same ∙ c.key.ensures) (laws.refl (key y)) in
          differs (same_slot (agree key eq) slots other c.args.slot y item may.0 (λ x z. laws.symm (key x) (key z)) there here alike)) (may.1 y there),
    )
