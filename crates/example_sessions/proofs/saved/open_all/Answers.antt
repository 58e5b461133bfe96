use Rattle.std.proofs.Common.{rules}
use Rattle.iddqd_sorted.proofs.Callers.{loaded_all, loaded_in_order}
use Rattle.iddqd_store.proofs.CallerLemmas.Batches.{rejected-at, rejected-behind}
use Rattle.example_sessions.proofs.saved.open_all.Goals as goal

pub returns-in-Ok-clause-all : goal.returns-in-Ok-clause-all
returns-in-Ok-clause-all c = loaded_all _ (λ it is. is.0) _ _ _ _ c.in-Ok.ensures.all

pub returns-in-Ok-clause-in_order : goal.returns-in-Ok-clause-in_order
returns-in-Ok-clause-in_order c = (loaded_in_order _ (λ it is. is.0) _ _ _ _ c.in-Ok.ensures.all).lists

pub returns-in-Err-clause-which : goal.returns-in-Err-clause-which
returns-in-Err-clause-which c = rejected-at _ (λ it is. is.0) _ _ c.in-Err.ensures.refused _ (search rules)

pub returns-in-Err-clause-before : goal.returns-in-Err-clause-before
returns-in-Err-clause-before c = rejected-behind _ (λ it is. is.0) _ _ c.in-Err.ensures.refused _ (search rules)
