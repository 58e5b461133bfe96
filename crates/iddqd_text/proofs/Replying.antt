-- A run into a sink of lines prints the lines of its replies.
use Rattle.std.proofs.Common.{◌≡◌, refl, ap, sym, ◌∙◌, ℕ, List, [], ◌∷◌, ◌++◌, Result, Ok, Err, append_assoc, append-nil, subst}
use Rattle.std.specs.Prelude.{MatchResult}
use Rattle.std.specs.List.{flat_map}
use Rattle.iddqd_commands.specs.Reply.{Reply}
use Rattle.iddqd_commands.specs.Run.{Run, Applies}
use Rattle.iddqd_store.specs.Map.State.{State, empty_state}
use Rattle.iddqd_commands.specs.Step.{Fits}
use Rattle.iddqd_text.specs.Outputs.{GrowsByLine, KeepsReply, Prints}

-- a sink whose text grows by lines
abbrev pub into_lines : {S R F : Type 0} → (S → List ℕ) → (R → List ℕ) → S → R → Result (Unit {0}) F → S → Type 0
into_lines text line sink reply answer after = GrowsByLine line (text sink) reply answer (text after)

module _ {C T D S : Type 0} (Steps : State T → C → Reply T D → State T → Type 0) (text : S → List ℕ) (line : Reply T D → List ℕ) where
  -- the run into a list of replies that begins with these, and the lines of those after them
  abbrev pub Replied : State T → S → List (Reply T D) → List C → State T → S → Type 0
  Replied old sink kept commands new after =
      (replies : List (Reply T D)) × Run Steps KeepsReply old kept commands (Ok tt) new (kept ++ replies) × (text after ≡ text sink ++ flat_map line replies)

  -- a command whose line was taken
  one_more : (old mid new : State T) (sink then after : S) (kept : List (Reply T D)) (command : C) (commands : List C) (reply : Reply T D)
      → Steps old command reply mid → Fits mid → text then ≡ text sink ++ line reply
      → Replied mid then (kept ++ reply ∷ []) commands new after → Replied old sink kept (command ∷ commands) new after
  one_more old mid new sink then after kept command commands reply s fits e r = (
    reply ∷ r.0,
    (
      mid,
      kept ++ reply ∷ [],
      Ok tt,
      (reply, s, fits, refl),
      subst (λ (ys : List (Reply T D)). Run Steps KeepsReply mid (kept ++ reply ∷ []) commands (Ok tt) new ys) (append_assoc kept (reply ∷ []) r.0) r.1,
    ),
    r.2 ∙ (ap (λ (ys : List ℕ). ys ++ flat_map line r.0) e ∙ append_assoc (text sink) (line reply) (flat_map line r.0)),
  )

module _ {C T D S F : Type 0} (Steps : State T → C → Reply T D → State T → Type 0) (text : S → List ℕ) (line : Reply T D → List ℕ) where
  -- the first command, and a run of the rest
  after_first : (old mid new : State T) (sink then after : S) (kept : List (Reply T D)) (command : C) (commands : List C) (said answer : Result (Unit {0}) F)
      → Applies Steps (into_lines {F = F} text line) old sink command said mid then
      → MatchResult said (λ _. Run Steps (into_lines {F = F} text line) mid then commands answer new after) (λ f. (answer ≡ Err f) × (new ≡ mid) × (after ≡ then))
      → ((more : List (Reply T D)) → Run Steps (into_lines {F = F} text line) mid then commands answer new after → Replied Steps text line mid then more commands new after)
      → (u : Unit {0}) → answer ≡ Ok u → Replied Steps text line old sink kept (command ∷ commands) new after
  after_first old mid new sink then after kept command commands (Ok v) answer a m ih u e =
      one_more Steps text line old mid new sink then after kept command commands a.0 a.1 a.2 a.3 (ih (kept ++ a.0 ∷ []) m)
  after_first old mid new sink then after kept command commands (Err f) answer a m ih u e = let x : Ok u ≡ Err f = sym e ∙ m.0 in cc

  -- a run without a fault
  replied : (commands : List C) (old new : State T) (sink after : S) (kept : List (Reply T D)) (answer : Result (Unit {0}) F)
      → Run Steps (into_lines {F = F} text line) old sink commands answer new after → (u : Unit {0}) → answer ≡ Ok u → Replied Steps text line old sink kept commands new after
  replied [] old new sink after kept answer h u e = ([], (refl, h.1, append-nil kept), ap text h.2 ∙ sym (append-nil (text sink)))
  replied (command ∷ commands) old new sink after kept answer h u e =
      after_first old h.0 new sink h.1 after kept command commands h.2 answer h.3 h.4 (λ more r. replied commands h.0 new h.1 after more answer r u e) u e

-- from a new map and an empty text
pub prints : {C T D S F : Type 0} (Steps : State T → C → Reply T D → State T → Type 0) (line : Reply T D → List ℕ)
    (text : S → List ℕ) (commands : List C) (old new : State T) (sink after : S) (answer : Result (Unit {0}) F) (u : Unit {0})
    → old ≡ empty_state → text sink ≡ [] → answer ≡ Ok u → Run Steps (into_lines {F = F} text line) old sink commands answer new after
    → Prints Steps line commands (text after)
prints Steps line text commands old new sink after answer u e f k h =
    let r = replied Steps text line commands old new sink after [] answer h u k in
    (r.0, (new, subst (λ state. Run Steps KeepsReply state [] commands (Ok tt) new r.0) e r.1), r.2 ∙ ap (λ (ys : List ℕ). ys ++ flat_map line r.0) f)
