-- A step leaves a sound bag sound, and a run keeps what each step keeps.
use Rattle.std.proofs.Common.{◌≡◌, sym, subst, List, [], ◌∷◌, Some, None, Result, Ok, Err, ◌++◌}
use Rattle.std.specs.Prelude.{ℕ, Bool, true, IsPermutation, MatchResult}
use Rattle.std.proofs.lemmas.List.Sorted.{IsPermutation-sym}
use Rattle.std.proofs.lemmas.Map.Keys.{IsDistinct-tail}
use Rattle.iddqd_store.specs.Bag.{Ranks, AreLawful, IsSound, agrees, do_conflict, with_item, with_items, swap}
use Rattle.iddqd_commands.specs.Reply.{Reply, done, duplicate, displaced, found, present, taken, memory, refused, size, items, kept, key, absent, absent_data, extend_refused}
use Rattle.iddqd_commands.specs.Run.{Run}
use Rattle.iddqd_store.specs.Map.State.{State}
use Rattle.iddqd_commands.specs.Step.{Fits, InsertsUnique, InsertsOverwrite, Gets, Tells, Removes, Reserves, ShrinksTo, Clears, Sizes, Lists, Extends, ExtendsUnique}
use Rattle.iddqd_commands.specs.Step.{EntryInserts, EntryRemoves, OrInserts, Replaces, Sets}
use Rattle.iddqd_store.proofs.BagLemmas.Differ.{agrees-first_mismatch}
use Rattle.iddqd_store.proofs.BagLemmas.Sound.{IsSound-with_item, IsSound-IsPermutation}
use Rattle.iddqd_store.proofs.BagLemmas.Steps.{IsSound-nil, IsSound-cons, IsSound-with_items, conflicting-empty}
use Rattle.iddqd_store.proofs.BagLemmas.Theory.{IsSound-swap}

module _ {T : Type 0} (ranks : Ranks T) (laws : AreLawful ranks) (old new : State T) (sound : IsSound ranks old.items) where
  same : new ≡ old → IsSound ranks new.items
  same e = subst (λ (s : State T). IsSound ranks s.items) (sym e) sound

  same_items : new.items ≡ old.items → IsSound ranks new.items
  same_items e = subst (IsSound ranks) (sym e) sound

  moved : (made : List T) → IsPermutation new.items made → IsSound ranks made → IsSound ranks new.items
  moved made made_of h = IsSound-IsPermutation ranks laws made new.items (IsPermutation-sym _ _ made_of) h

-- the items after others in a sound bag are sound
IsSound-back : {T : Type 0} (ranks : Ranks T) (xs ys : List T) → IsSound ranks (xs ++ ys) → IsSound ranks ys
IsSound-back ranks [] ys h = h
IsSound-back ranks (x ∷ xs) ys h = IsSound-back ranks xs ys (IsDistinct-tail (do_conflict ranks) x (xs ++ ys) h)

module _ {T D : Type 0} (ranks : Ranks T) (laws : AreLawful ranks) (old new : State T) (sound : IsSound ranks old.items) where
  pub IsSound-InsertsUnique : (x : T) (reply : Reply T D) → InsertsUnique ranks old x reply new → IsSound ranks new.items
  IsSound-InsertsUnique x done step = moved ranks laws old new sound (x ∷ old.items) step.1 (IsSound-cons ranks old.items x (conflicting-empty ranks old.items x step.0) sound)
  IsSound-InsertsUnique x (duplicate y ys) step = same ranks laws old new sound step.3
  IsSound-InsertsUnique x (memory y) step = same ranks laws old new sound step.3
  IsSound-InsertsUnique x reply step = absurd step

  pub IsSound-InsertsOverwrite : (x : T) (reply : Reply T D) → InsertsOverwrite ranks old x reply new → IsSound ranks new.items
  IsSound-InsertsOverwrite x (displaced ys) step = moved ranks laws old new sound (with_item ranks old.items x) step.1 (IsSound-with_item ranks old.items x sound)
  IsSound-InsertsOverwrite x (memory y) step = same ranks laws old new sound step.3
  IsSound-InsertsOverwrite x reply step = absurd step

  pub IsSound-Gets : (test : T → Bool) (reply : Reply T D) → Gets old test reply new → IsSound ranks new.items
  IsSound-Gets test (found o) step = same ranks laws old new sound step.1
  IsSound-Gets test reply step = absurd step

  pub IsSound-Tells : (test : T → Bool) (reply : Reply T D) → Tells old test reply new → IsSound ranks new.items
  IsSound-Tells test (present b) step = same ranks laws old new sound step.1
  IsSound-Tells test reply step = absurd step

  pub IsSound-Removes : (test : T → Bool) (reply : Reply T D) → Removes old test reply new → IsSound ranks new.items
  IsSound-Removes test (taken None) step = moved ranks laws old new sound old.items (IsPermutation-sym _ _ step.1) sound
  IsSound-Removes test (taken (Some x)) step =
      IsDistinct-tail (do_conflict ranks) x new.items (IsSound-IsPermutation ranks laws old.items (x ∷ new.items) step.1 sound)
  IsSound-Removes test reply step = absurd step

  pub IsSound-Reserves : (more : ℕ) (reply : Reply T D) → Reserves old more reply new → IsSound ranks new.items
  IsSound-Reserves more done step = same_items ranks laws old new sound step.0
  IsSound-Reserves more refused step = same ranks laws old new sound step.1
  IsSound-Reserves more reply step = absurd step

  pub IsSound-ShrinksTo : (least : ℕ) (reply : Reply T D) → ShrinksTo old least reply new → IsSound ranks new.items
  IsSound-ShrinksTo least done step = same_items ranks laws old new sound step.0
  IsSound-ShrinksTo least refused step = same ranks laws old new sound step.2
  IsSound-ShrinksTo least reply step = absurd step

  pub IsSound-Clears : (reply : Reply T D) → Clears old reply new → IsSound ranks new.items
  IsSound-Clears done step = subst (IsSound ranks) (sym step.0) (IsSound-nil ranks)
  IsSound-Clears reply step = absurd step

  pub IsSound-Sizes : (reply : Reply T D) → Sizes old reply new → IsSound ranks new.items
  IsSound-Sizes (size n) step = same ranks laws old new sound step.1
  IsSound-Sizes reply step = absurd step

  pub IsSound-Lists : (reply : Reply T D) → Lists old reply new → IsSound ranks new.items
  IsSound-Lists (items xs) step = same ranks laws old new sound step.1
  IsSound-Lists reply step = absurd step

  pub IsSound-Extends : (xs : List T) (reply : Reply T D) → Extends ranks old xs reply new → IsSound ranks new.items
  IsSound-Extends xs done step = moved ranks laws old new sound (with_items ranks old.items xs) step.0.items (IsSound-with_items ranks old.items xs sound)
  IsSound-Extends xs (memory y) step = moved ranks laws old new sound (with_items ranks old.items step.0) step.3.items (IsSound-with_items ranks old.items step.0 sound)
  IsSound-Extends xs reply step = absurd step

  pub IsSound-ExtendsUnique : (xs : List T) (reply : Reply T D) → ExtendsUnique ranks old xs reply new → IsSound ranks new.items
  IsSound-ExtendsUnique xs done step = step.1
  IsSound-ExtendsUnique xs (extend_refused reason ys y) step = moved ranks laws old new sound old.items step.2 sound
  IsSound-ExtendsUnique xs reply step = absurd step

  pub IsSound-EntryInserts : (tests : List (T → Bool)) (x : T) (reply : Reply T D) → EntryInserts ranks tests old x reply new → IsSound ranks new.items
  IsSound-EntryInserts tests x (displaced ys) step = IsSound-InsertsOverwrite x (displaced ys) step.1
  IsSound-EntryInserts tests x (key r y) step = same ranks laws old new sound step.2
  IsSound-EntryInserts tests x (memory y) step = same ranks laws old new sound step.1.3
  IsSound-EntryInserts tests x reply step = absurd step

  pub IsSound-EntryRemoves : (tests : List (T → Bool)) (reply : Reply T D) → EntryRemoves tests old reply new → IsSound ranks new.items
  IsSound-EntryRemoves tests (displaced ys) step =
      IsSound-back ranks ys new.items (IsSound-IsPermutation ranks laws old.items (ys ++ new.items) step.1 sound)
  IsSound-EntryRemoves tests reply step = absurd step

  pub IsSound-OrInserts : (tests : List (T → Bool)) (x : T) (reply : Reply T D) → OrInserts ranks tests old x reply new → IsSound ranks new.items
  IsSound-OrInserts tests x kept step = same ranks laws old new sound step.1
  IsSound-OrInserts tests x (key r y) step = same ranks laws old new sound step.3
  IsSound-OrInserts tests x done step = IsSound-InsertsUnique x done step.2
  IsSound-OrInserts tests x (memory y) step = same ranks laws old new sound step.2.3
  IsSound-OrInserts tests x reply step = absurd step

  pub IsSound-Replaces : (test : T → Bool) (x : T) (reply : Reply T D) → Replaces ranks test old x reply new → IsSound ranks new.items
  IsSound-Replaces test x (displaced ys) step =
      moved ranks laws old new sound (swap ranks old.items step.0 x) step.4
      (IsSound-swap ranks laws old.items step.0 x (agrees-first_mismatch ranks step.0 x step.3) sound)
  IsSound-Replaces test x (key r y) step = same ranks laws old new sound step.4
  IsSound-Replaces test x (absent y) step = same ranks laws old new sound step.2
  IsSound-Replaces test x reply step = absurd step

  -- if an item with other data has its keys
  pub IsSound-Sets : (put : T → D → T) → ((z : T) (d : D) → agrees ranks z (put z d) ≡ true) → (test : T → Bool) (d : D) (reply : Reply T D)
      → Sets ranks put test old d reply new → IsSound ranks new.items
  IsSound-Sets put keeps test d done step =
      moved ranks laws old new sound (swap ranks old.items step.0 (put step.0 d)) step.2
      (IsSound-swap ranks laws old.items step.0 (put step.0 d) (keeps step.0 d) sound)
  IsSound-Sets put keeps test d (absent_data e) step = same ranks laws old new sound step.2
  IsSound-Sets put keeps test d reply step = absurd step

module _ {C T D S F : Type 0} (Step : State T → C → Reply T D → State T → Type 0) (took : S → Reply T D → Result (Unit {0}) F → S → Type 0) (P : State T → Type 0)
    (kept : (old new : State T) (command : C) (reply : Reply T D) → P old → Step old command reply new → Fits new → P new) where
  on : (next new : State T) (then after : S) (commands : List C) (said answer : Result (Unit {0}) F) → P next
      → (Run Step took next then commands answer new after → P new)
      → MatchResult said (λ _. Run Step took next then commands answer new after) (λ fault. (answer ≡ Err fault) × (new ≡ next) × (after ≡ then)) → P new
  on next new then after commands (Ok u) answer here rest run = rest run
  on next new then after commands (Err fault) answer here rest run = subst P (sym run.1) here

  -- a run keeps what each step keeps
  pub run_keeps : (commands : List C) (old new : State T) (sink after : S) (answer : Result (Unit {0}) F) → P old → Run Step took old sink commands answer new after → P new
  run_keeps [] old new sink after answer here run = subst P (sym run.1) here
  run_keeps (command ∷ commands) old new sink after answer here run =
      let next = kept old run.0 command run.3.0 here run.3.1 run.3.2 in
      on run.0 new run.1 after commands run.2 answer next (run_keeps commands run.0 new run.1 after answer next) run.4
