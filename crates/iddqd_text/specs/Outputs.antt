-- What a run of commands prints.
use Rattle.std.specs.Prelude.{◌≡◌, ◌++◌, [], ◌∷◌, ℕ, List, Result, Ok, Err}
use Rattle.std.specs.List.{flat_map}
use Rattle.iddqd_commands.specs.Reply.{Reply}
use Rattle.iddqd_commands.specs.Run.{Run}
use Rattle.iddqd_store.specs.Map.State.{State, empty_state}

-- a sink whose text grows by the line of each reply that it takes
abbrev pub GrowsByLine : {R F : Type 0} → (R → List ℕ) → List ℕ → R → Result (Unit {0}) F → List ℕ → Type 0
GrowsByLine line old reply (Ok u) new = new ≡ old ++ line reply
GrowsByLine line old reply (Err e) new = new ≡ old

-- a sink that keeps each reply, and has no fault
abbrev pub KeepsReply : {R : Type 0} → List R → R → Result (Unit {0}) (Unit {0}) → List R → Type 0
KeepsReply old reply (Ok u) new = new ≡ old ++ reply ∷ []
KeepsReply old reply (Err e) new = ⊥

-- `Steps` is what each command of a kind of map may return
module _ {C T D : Type 0} (Steps : State T → C → Reply T D → State T → Type 0) where
  -- the replies of a run of the commands on a new map
  abbrev pub Replies : List C → List (Reply T D) → Type 0
  Replies commands replies = (new : State T) × Run Steps KeepsReply empty_state [] commands (Ok tt) new replies

  -- the lines of these replies
  abbrev pub Prints : (Reply T D → List ℕ) → List C → List ℕ → Type 0
  Prints line commands output =
      (replies : List (Reply T D)) × Replies commands replies × (output ≡ flat_map line replies)
