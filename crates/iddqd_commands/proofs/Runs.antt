-- A run by its first command.
use Rattle.std.proofs.Common.{◌≡◌, refl, List, ◌∷◌, Result, Ok, Err, subst, sym}
use Rattle.std.specs.Prelude.{MatchResult}
use Rattle.iddqd_commands.specs.Reply.{Reply}
use Rattle.iddqd_store.specs.Map.State.{State}
use Rattle.iddqd_commands.specs.Run.{Applies, Run}

module _ {C T D S F : Type 0} (Step : State T → C → Reply T D → State T → Type 0) (took : S → Reply T D → Result (Unit {0}) F → S → Type 0) where
  -- a command that the sink took well, and a run of the rest
  pub run_on : (old next new : State T) (sink then after : S) (commands rest : List C) (command : C) (said answer : Result (Unit {0}) F) (u : Unit {0})
      → commands ≡ command ∷ rest → said ≡ Ok u → Applies Step took old sink command said next then
      → Run Step took next then rest answer new after → Run Step took old sink commands answer new after
  run_on old next new sink then after commands rest command said answer u first well step run =
      subst (λ (ys : List C). Run Step took old sink ys answer new after) (sym first) (
        next,
        then,
        said,
        step,
        subst (λ (v : Result (Unit {0}) F). MatchResult v (λ _. Run Step took next then rest answer new after)
            (λ fault. (answer ≡ Err fault) × (new ≡ next) × (after ≡ then))) (sym well) run,
      )

  -- a command at which the sink failed
  pub run_ends : (old next : State T) (sink then : S) (commands rest : List C) (command : C) (said answer : Result (Unit {0}) F) (fault : F)
      → commands ≡ command ∷ rest → said ≡ Err fault → answer ≡ Err fault → Applies Step took old sink command said next then
      → Run Step took old sink commands answer next then
  run_ends old next sink then commands rest command said answer fault first failed same step =
      subst (λ (ys : List C). Run Step took old sink ys answer next then) (sym first) (
        next,
        then,
        said,
        step,
        subst (λ (v : Result (Unit {0}) F). MatchResult v (λ _. Run Step took next then rest answer next then)
            (λ f. (answer ≡ Err f) × (next ≡ next) × (then ≡ then))) (sym failed) (same, refl, refl),
      )
