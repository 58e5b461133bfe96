use Rattle.std.proofs.Common.{◌≡◌, rules}
use Rattle.std.specs.Prelude.{[], ◌∷◌, nat_eq, take}
use Rattle.iddqd_bi.specs.Bag.{Ranks}
use Rattle.iddqd_bi.specs.Rank.{agree}
use Rattle.iddqd_bi.proofs.CallerLemmas.Batches.{loaded, rejected-at, rejected-behind}
use Rattle.example_calls.specs.declared.batch.Record.{Record}
use Rattle.example_calls.proofs.batch.load.Goals as goal

abbrev item_ranks : Ranks Record
item_ranks = agree (λ (r : Record). r.number) nat_eq ∷ agree (λ (r : Record). r.code) nat_eq ∷ []

pub returns-in-Ok-clause-all : goal.returns-in-Ok-clause-all
returns-in-Ok-clause-all c = loaded _ (λ it is. is.0) item_ranks _ _ c.in-Ok.ensures.all

pub returns-in-Err-clause-which : goal.returns-in-Err-clause-which
returns-in-Err-clause-which c = rejected-at _ (λ it is. is.0) _ _ c.in-Err.ensures.refused _ (search rules)

-- the items before the rejected one are the first of the batch
behind : (c : goal.After-drop-refused) → take c.len.result c.args.batch.items ≡ c.in-Err.refused.before.items
behind c = rejected-behind _ (λ it is. is.0) _ _ c.in-Err.ensures.refused _ (search rules)

pub returns-in-Err-clause-apart : goal.returns-in-Err-clause-apart
returns-in-Err-clause-apart c = rw (behind c) c.in-Err.ensures.reason.apart

pub returns-in-Err-clause-number_taken : goal.returns-in-Err-clause-number_taken
returns-in-Err-clause-number_taken c = rw (behind c) c.in-Err.ensures.reason.taken1

pub returns-in-Err-clause-code_taken : goal.returns-in-Err-clause-code_taken
returns-in-Err-clause-code_taken c = rw (behind c) c.in-Err.ensures.reason.taken2
