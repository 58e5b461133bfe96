-- One step of a map with two keys: each command with what it may return.
use Rattle.std.specs.Prelude.{Bool}
use Rattle.iddqd_commands.specs.Reply.{Reply}
use Rattle.iddqd_store.specs.Map.State.{State}
use Rattle.iddqd_commands.specs.Step.{Gets, Tells, Reserves, ShrinksTo, Clears, Sizes, Lists}
use Rattle.iddqd_commands.specs.Step.{InsertsUnique, InsertsOverwrite, Removes, Extends, ExtendsUnique}
use Rattle.iddqd_commands.specs.Step.{EntryInserts, EntryRemoves, OrInserts, Replaces, Sets}
use Rattle.iddqd_bi.specs.Keys.{ranks, has1, has2, has_both, key_tests}
use Rattle.iddqd_bi.specs.declared.item.BiHashItem as item
use Rattle.iddqd_commands_bi.specs.declared.command.BiCommand.{BiCommand}
use Rattle.iddqd_commands_bi.specs.declared.command.BiCommand.TheVariants.{InsertUnique, InsertOverwrite}
use Rattle.iddqd_commands_bi.specs.declared.command.BiCommand.TheVariants.{Get1, Get2, GetUnique}
use Rattle.iddqd_commands_bi.specs.declared.command.BiCommand.TheVariants.{Contains1, Contains2, ContainsUnique}
use Rattle.iddqd_commands_bi.specs.declared.command.BiCommand.TheVariants.{Remove1, Remove2, RemoveUnique}
use Rattle.iddqd_commands_bi.specs.declared.command.BiCommand.TheVariants.{Reserve, ShrinkTo, ShrinkToFit, Clear, Len, Items}
use Rattle.iddqd_commands_bi.specs.declared.command.BiCommand.TheVariants.{Extend, ExtendUnique}
use Rattle.iddqd_commands_bi.specs.declared.command.BiCommand.TheVariants.{EntryInsert, EntryRemove, OrInsert}
use Rattle.iddqd_commands_bi.specs.declared.command.BiCommand.TheVariants.{Replace1, Replace2, Set1, Set2}

-- The function `put` gives an item with other data.
module _ {T D K1 K2 : Type 0} (of : item.Ghosts T K1 K2)
    (eq1 : K1 → K1 → Bool) (eq2 : K2 → K2 → Bool) (put : T → D → T) where
  -- A map in the state `old` may give this reply to the command, and go on to the state `new`.
  -- Example: `Len` in the state of three items gives `size 3`, and the state stays.
  abbrev pub Step : State T → BiCommand T D K1 K2 → Reply T D → State T → Type 0
  Step old (InsertUnique x) reply new = InsertsUnique (ranks of eq1 eq2) old x reply new
  Step old (InsertOverwrite x) reply new = InsertsOverwrite (ranks of eq1 eq2) old x reply new
  Step old (Get1 k) reply new = Gets old (has1 of eq1 k) reply new
  Step old (Get2 k) reply new = Gets old (has2 of eq2 k) reply new
  Step old (GetUnique k l) reply new = Gets old (has_both of eq1 eq2 k l) reply new
  Step old (Contains1 k) reply new = Tells old (has1 of eq1 k) reply new
  Step old (Contains2 k) reply new = Tells old (has2 of eq2 k) reply new
  Step old (ContainsUnique k l) reply new = Tells old (has_both of eq1 eq2 k l) reply new
  Step old (Remove1 k) reply new = Removes old (has1 of eq1 k) reply new
  Step old (Remove2 k) reply new = Removes old (has2 of eq2 k) reply new
  Step old (RemoveUnique k l) reply new = Removes old (has_both of eq1 eq2 k l) reply new
  Step old (Reserve n) reply new = Reserves old n reply new
  Step old (ShrinkTo n) reply new = ShrinksTo old n reply new
  Step old ShrinkToFit reply new = ShrinksTo old 0 reply new
  Step old Clear reply new = Clears old reply new
  Step old Len reply new = Sizes old reply new
  Step old Items reply new = Lists old reply new
  Step old (Extend xs) reply new = Extends (ranks of eq1 eq2) old xs.items reply new
  Step old (ExtendUnique xs) reply new = ExtendsUnique (ranks of eq1 eq2) old xs.items reply new
  Step old (EntryInsert k l x) reply new =
      EntryInserts (ranks of eq1 eq2) (key_tests of eq1 eq2 k l) old x reply new
  Step old (EntryRemove k l) reply new = EntryRemoves (key_tests of eq1 eq2 k l) old reply new
  Step old (OrInsert k l x) reply new =
      OrInserts (ranks of eq1 eq2) (key_tests of eq1 eq2 k l) old x reply new
  Step old (Replace1 k x) reply new = Replaces (ranks of eq1 eq2) (has1 of eq1 k) old x reply new
  Step old (Replace2 k x) reply new = Replaces (ranks of eq1 eq2) (has2 of eq2 k) old x reply new
  Step old (Set1 k d) reply new = Sets (ranks of eq1 eq2) put (has1 of eq1 k) old d reply new
  Step old (Set2 k d) reply new = Sets (ranks of eq1 eq2) put (has2 of eq2 k) old d reply new
