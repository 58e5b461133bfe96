-- A run of commands, whose replies a sink takes one by one.
use Rattle.std.specs.Prelude.{◌≡◌, List, [], ◌∷◌, Result, Ok, Err, MatchResult}
use Rattle.iddqd_commands.specs.Reply.{Reply}
use Rattle.iddqd_store.specs.Map.State.{State}
use Rattle.iddqd_commands.specs.Step.{Fits}

module _ {C T D S F : Type 0} (Step : State T → C → Reply T D → State T → Type 0)
    (took : S → Reply T D → Result (Unit {0}) F → S → Type 0) where
  -- One command is carried out: `Step` allows its reply and its new state, the items fit, and the sink takes the
  -- reply and gives this answer.
  -- Example: `Len` on the bag gives the sink the reply `size 3`.
  abbrev pub Applies : State T → S → C → Result (Unit {0}) F → State T → S → Type 0
  Applies old sink command answer new after =
      (reply : Reply T D) × Step old command reply new × Fits new × took sink reply answer after

  -- The commands are carried out in turn, up to the first fault of the sink.
  -- Example: A run of no command changes nothing and answers `Ok`.
  abbrev pub Run : State T → S → List C → Result (Unit {0}) F → State T → S → Type 0
  Run old sink [] answer new after = (answer ≡ Ok tt) × (new ≡ old) × (after ≡ sink)
  Run old sink (command ∷ commands) answer new after =
      (next : State T) × (then : S) × (said : Result (Unit {0}) F) × Applies old sink command said next then
      × MatchResult said (λ _. Run next then commands answer new after)
      (λ fault. (answer ≡ Err fault) × (new ≡ next) × (after ≡ then))
