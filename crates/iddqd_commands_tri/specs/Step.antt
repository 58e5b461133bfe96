-- Made by tests/widths from crates/iddqd_commands_bi/specs/Step.antt: change that file.

-- One step of a map with three keys: each command with what it may return.
use Rattle.std.specs.Prelude.{Bool}
use Rattle.iddqd_commands.specs.Reply.{Reply}
use Rattle.iddqd_store.specs.Map.State.{State}
use Rattle.iddqd_commands.specs.Step.{Gets, Tells, Reserves, ShrinksTo, Clears, Sizes, Lists}
use Rattle.iddqd_commands.specs.Step.{InsertsUnique, InsertsOverwrite, Removes, Extends, ExtendsUnique}
use Rattle.iddqd_commands.specs.Step.{EntryInserts, EntryRemoves, OrInserts, Replaces, Sets}
use Rattle.iddqd_tri.specs.Keys.{ranks, has1, has2, has3, has_all, key_tests}
use Rattle.iddqd_tri.specs.declared.item.TriHashItem as item
use Rattle.iddqd_commands_tri.specs.declared.command.TriCommand.{TriCommand}
use Rattle.iddqd_commands_tri.specs.declared.command.TriCommand.TheVariants.{InsertUnique, InsertOverwrite}
use Rattle.iddqd_commands_tri.specs.declared.command.TriCommand.TheVariants.{Get1, Get2, Get3, GetUnique}
use Rattle.iddqd_commands_tri.specs.declared.command.TriCommand.TheVariants.{Contains1, Contains2, Contains3, ContainsUnique}
use Rattle.iddqd_commands_tri.specs.declared.command.TriCommand.TheVariants.{Remove1, Remove2, Remove3, RemoveUnique}
use Rattle.iddqd_commands_tri.specs.declared.command.TriCommand.TheVariants.{Reserve, ShrinkTo, ShrinkToFit, Clear, Len, Items}
use Rattle.iddqd_commands_tri.specs.declared.command.TriCommand.TheVariants.{Extend, ExtendUnique}
use Rattle.iddqd_commands_tri.specs.declared.command.TriCommand.TheVariants.{EntryInsert, EntryRemove, OrInsert}
use Rattle.iddqd_commands_tri.specs.declared.command.TriCommand.TheVariants.{Replace1, Replace2, Replace3, Set1, Set2, Set3}

-- The function `put` gives an item with other data.
module _ {T D K1 K2 K3 : Type 0} (of : item.Ghosts T K1 K2 K3)
    (eq1 : K1 → K1 → Bool) (eq2 : K2 → K2 → Bool) (eq3 : K3 → K3 → Bool) (put : T → D → T) where
  -- A map in the state `old` may give this reply to the command, and go on to the state `new`.
  -- Example: `Len` in the state of three items gives `size 3`, and the state stays.
  abbrev pub Step : State T → TriCommand T D K1 K2 K3 → Reply T D → State T → Type 0
  Step old (InsertUnique x) reply new = InsertsUnique (ranks of eq1 eq2 eq3) old x reply new
  Step old (InsertOverwrite x) reply new = InsertsOverwrite (ranks of eq1 eq2 eq3) old x reply new
  Step old (Get1 k) reply new = Gets old (has1 of eq1 k) reply new
  Step old (Get2 k) reply new = Gets old (has2 of eq2 k) reply new
  Step old (Get3 k) reply new = Gets old (has3 of eq3 k) reply new
  Step old (GetUnique k l m) reply new = Gets old (has_all of eq1 eq2 eq3 k l m) reply new
  Step old (Contains1 k) reply new = Tells old (has1 of eq1 k) reply new
  Step old (Contains2 k) reply new = Tells old (has2 of eq2 k) reply new
  Step old (Contains3 k) reply new = Tells old (has3 of eq3 k) reply new
  Step old (ContainsUnique k l m) reply new = Tells old (has_all of eq1 eq2 eq3 k l m) reply new
  Step old (Remove1 k) reply new = Removes old (has1 of eq1 k) reply new
  Step old (Remove2 k) reply new = Removes old (has2 of eq2 k) reply new
  Step old (Remove3 k) reply new = Removes old (has3 of eq3 k) reply new
  Step old (RemoveUnique k l m) reply new = Removes old (has_all of eq1 eq2 eq3 k l m) reply new
  Step old (Reserve n) reply new = Reserves old n reply new
  Step old (ShrinkTo n) reply new = ShrinksTo old n reply new
  Step old ShrinkToFit reply new = ShrinksTo old 0 reply new
  Step old Clear reply new = Clears old reply new
  Step old Len reply new = Sizes old reply new
  Step old Items reply new = Lists old reply new
  Step old (Extend xs) reply new = Extends (ranks of eq1 eq2 eq3) old xs.items reply new
  Step old (ExtendUnique xs) reply new = ExtendsUnique (ranks of eq1 eq2 eq3) old xs.items reply new
  Step old (EntryInsert k l m x) reply new =
      EntryInserts (ranks of eq1 eq2 eq3) (key_tests of eq1 eq2 eq3 k l m) old x reply new
  Step old (EntryRemove k l m) reply new = EntryRemoves (key_tests of eq1 eq2 eq3 k l m) old reply new
  Step old (OrInsert k l m x) reply new =
      OrInserts (ranks of eq1 eq2 eq3) (key_tests of eq1 eq2 eq3 k l m) old x reply new
  Step old (Replace1 k x) reply new = Replaces (ranks of eq1 eq2 eq3) (has1 of eq1 k) old x reply new
  Step old (Replace2 k x) reply new = Replaces (ranks of eq1 eq2 eq3) (has2 of eq2 k) old x reply new
  Step old (Replace3 k x) reply new = Replaces (ranks of eq1 eq2 eq3) (has3 of eq3 k) old x reply new
  Step old (Set1 k d) reply new = Sets (ranks of eq1 eq2 eq3) put (has1 of eq1 k) old d reply new
  Step old (Set2 k d) reply new = Sets (ranks of eq1 eq2 eq3) put (has2 of eq2 k) old d reply new
  Step old (Set3 k d) reply new = Sets (ranks of eq1 eq2 eq3) put (has3 of eq3 k) old d reply new
