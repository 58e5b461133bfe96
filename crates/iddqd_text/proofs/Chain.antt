-- A run that keeps its replies, command by command.
use Rattle.std.proofs.Common.{◌≡◌, refl, ap, sym, ◌∙◌, List, [], ◌∷◌, ◌++◌, Result, Ok, Err, append_assoc, append-nil, subst}
use Rattle.std.specs.Prelude.{MatchResult}
use Rattle.iddqd_commands.specs.Reply.{Reply}
use Rattle.iddqd_commands.specs.Run.{Run, Applies}
use Rattle.iddqd_store.specs.Map.State.{State, empty_state}
use Rattle.iddqd_commands.specs.Step.{Fits}
use Rattle.iddqd_text.specs.Outputs.{KeepsReply, Replies}

module _ {C T D : Type 0} (Steps : State T → C → Reply T D → State T → Type 0) where
  -- a step for each command, with its reply, to a state whose items fit
  abbrev pub Chain : State T → List C → List (Reply T D) → State T → Type 0
  Chain old [] [] new = new ≡ old
  Chain old [] (reply ∷ replies) new = ⊥
  Chain old (command ∷ commands) [] new = ⊥
  Chain old (command ∷ commands) (reply ∷ replies) new =
      (next : State T) × Steps old command reply next × Fits next × Chain next commands replies new

  -- such a run after these replies
  abbrev Kept : State T → List (Reply T D) → List C → State T → List (Reply T D) → Type 0
  Kept old kept commands new after = Run Steps KeepsReply old kept commands (Ok tt) new after

  -- the replies of a run are those of a chain
  abbrev Chained : State T → List (Reply T D) → List C → State T → List (Reply T D) → Type 0
  Chained old kept commands new after = (replies : List (Reply T D)) × (after ≡ kept ++ replies) × Chain old commands replies new

  first : (old mid new : State T) (kept then after : List (Reply T D)) (command : C) (commands : List C) (said : Result (Unit {0}) (Unit {0}))
      → Applies Steps KeepsReply old kept command said mid then
      → MatchResult said (λ _. Kept mid then commands new after) (λ f. (◌≡◌ {A = Result (Unit {0}) (Unit {0})} (Ok tt) (Err f)) × (new ≡ mid) × (after ≡ then))
      → (Kept mid then commands new after → Chained mid then commands new after)
      → Chained old kept (command ∷ commands) new after
  first old mid new kept then after command commands (Ok v) step run rest =
      let more = rest run in
      (step.0 ∷ more.0, more.1 ∙ ap (λ (l : List (Reply T D)). l ++ more.0) step.3 ∙ append_assoc kept (step.0 ∷ []) more.0, (mid, step.1, step.2, more.2))
  first old mid new kept then after command commands (Err f) step run rest = absurd step.3

  pub chain_of : (commands : List C) (old new : State T) (kept after : List (Reply T D)) → Kept old kept commands new after → Chained old kept commands new after
  chain_of [] old new kept after h = ([], h.2 ∙ sym (append-nil kept), h.1)
  chain_of (command ∷ commands) old new kept after h =
      first old h.0 new kept h.1 after command commands h.2 h.3 h.4 (λ run. chain_of commands h.0 new h.1 after run)

  -- a chain gives such a run
  pub run_of : (commands : List C) (replies : List (Reply T D)) (old new : State T) (kept : List (Reply T D)) → Chain old commands replies new → Kept old kept commands new (kept ++ replies)
  run_of [] [] old new kept h = (refl, h, append-nil kept)
  run_of [] (reply ∷ replies) old new kept h = absurd h
  run_of (command ∷ commands) [] old new kept h = absurd h
  run_of (command ∷ commands) (reply ∷ replies) old new kept h =
      let rest = run_of commands replies h.0 new (kept ++ reply ∷ []) h.3 in
      (h.0, kept ++ reply ∷ [], Ok tt, (reply, h.1, h.2, refl), subst (λ (l : List (Reply T D)). Kept h.0 (kept ++ reply ∷ []) commands new l) (append_assoc kept (reply ∷ []) replies) rest)

  -- such a chain on a new map
  abbrev pub FromEmpty : List C → List (Reply T D) → Type 0
  FromEmpty commands replies = (new : State T) × Chain empty_state commands replies new

  pub from_empty : (commands : List C) (replies : List (Reply T D)) → Replies Steps commands replies → FromEmpty commands replies
  from_empty commands replies run =
      let h = chain_of commands empty_state run.0 [] replies run.1 in
      (run.0, subst (λ (l : List (Reply T D)). Chain empty_state commands l run.0) (sym h.1) h.2)

  pub replies_from : (commands : List C) (replies : List (Reply T D)) → FromEmpty commands replies → Replies Steps commands replies
  replies_from commands replies chain = (chain.0, run_of commands replies empty_state chain.0 [] chain.1)
