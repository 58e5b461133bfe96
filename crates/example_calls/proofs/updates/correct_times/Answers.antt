use Rattle.std.proofs.Common.{◌<◌, ◌+◌, ◌^◌, rules}
use Rattle.iddqd_id.proofs.CallerLemmas.Calling.{takes_by_items}
use Rattle.example_calls.specs.declared.updates.Card.{Card}
use Rattle.example_calls.proofs.updates.correct_times.Goals as goal

-- no call takes a time past the largest number
pub update_all-requires : goal.update_all-requires
update_all-requires c = takes_by_items _ (λ (card : Card). card.last.time + 1 < 2 ^ 64) (λ f card below. search rules) _ _ c.requires
