-- Each run from a sound bag ends in a sound bag, if other data does not change an item's keys.
use Rattle.std.proofs.Common.{◌≡◌, Bool, true, List, Result}
use Rattle.iddqd_store.specs.Bag.{AreLawful, IsSound, agrees}
use Rattle.iddqd_commands.specs.Reply.{Reply}
use Rattle.iddqd_commands.specs.Run.{Run}
use Rattle.iddqd_store.specs.Map.State.{State}
use Rattle.iddqd_commands.proofs.Steps.{IsSound-InsertsUnique, IsSound-InsertsOverwrite, IsSound-Gets, IsSound-Tells, IsSound-Removes, IsSound-Reserves}
use Rattle.iddqd_commands.proofs.Steps.{IsSound-ShrinksTo, IsSound-Clears, IsSound-Sizes, IsSound-Lists, IsSound-Extends, IsSound-ExtendsUnique}
use Rattle.iddqd_commands.proofs.Steps.{IsSound-EntryInserts, IsSound-EntryRemoves, IsSound-OrInserts, IsSound-Replaces, IsSound-Sets, run_keeps}
use Rattle.iddqd_bi.specs.Keys.{ranks, has1, has2, has_both, key_tests}
use Rattle.iddqd_commands_bi.specs.Step.{Step}
use Rattle.iddqd_bi.specs.declared.item.BiHashItem as item
use Rattle.iddqd_commands_bi.specs.declared.command.BiCommand.{BiCommand}
use Rattle.iddqd_commands_bi.specs.declared.command.BiCommand.TheVariants.{InsertUnique, InsertOverwrite, Get1, Get2, GetUnique, Contains1, Contains2, ContainsUnique}
use Rattle.iddqd_commands_bi.specs.declared.command.BiCommand.TheVariants.{Remove1, Remove2, RemoveUnique, Reserve, ShrinkTo, ShrinkToFit, Clear, Len, Items, Extend}
use Rattle.iddqd_commands_bi.specs.declared.command.BiCommand.TheVariants.{ExtendUnique, EntryInsert, EntryRemove, OrInsert, Replace1, Replace2, Set1, Set2}

module _ {T D K1 K2 : Type 0} (of : item.Ghosts T K1 K2) (eq1 : K1 → K1 → Bool) (eq2 : K2 → K2 → Bool) (put : T → D → T) (laws : AreLawful (ranks of eq1 eq2))
    (keeps : (x : T) (d : D) → agrees (ranks of eq1 eq2) x (put x d) ≡ true) where
  -- the same holds for one step
  pub IsSound-Step : (old new : State T) (command : BiCommand T D K1 K2) (reply : Reply T D)
      → IsSound (ranks of eq1 eq2) old.items → Step of eq1 eq2 put old command reply new → IsSound (ranks of eq1 eq2) new.items
  IsSound-Step old new (InsertUnique x) reply sound step = IsSound-InsertsUnique (ranks of eq1 eq2) laws old new sound x reply step
  IsSound-Step old new (InsertOverwrite x) reply sound step = IsSound-InsertsOverwrite (ranks of eq1 eq2) laws old new sound x reply step
  IsSound-Step old new (Get1 k) reply sound step = IsSound-Gets (ranks of eq1 eq2) laws old new sound (has1 of eq1 k) reply step
  IsSound-Step old new (Get2 k) reply sound step = IsSound-Gets (ranks of eq1 eq2) laws old new sound (has2 of eq2 k) reply step
  IsSound-Step old new (GetUnique k l) reply sound step = IsSound-Gets (ranks of eq1 eq2) laws old new sound (has_both of eq1 eq2 k l) reply step
  IsSound-Step old new (Contains1 k) reply sound step = IsSound-Tells (ranks of eq1 eq2) laws old new sound (has1 of eq1 k) reply step
  IsSound-Step old new (Contains2 k) reply sound step = IsSound-Tells (ranks of eq1 eq2) laws old new sound (has2 of eq2 k) reply step
  IsSound-Step old new (ContainsUnique k l) reply sound step = IsSound-Tells (ranks of eq1 eq2) laws old new sound (has_both of eq1 eq2 k l) reply step
  IsSound-Step old new (Remove1 k) reply sound step = IsSound-Removes (ranks of eq1 eq2) laws old new sound (has1 of eq1 k) reply step
  IsSound-Step old new (Remove2 k) reply sound step = IsSound-Removes (ranks of eq1 eq2) laws old new sound (has2 of eq2 k) reply step
  IsSound-Step old new (RemoveUnique k l) reply sound step = IsSound-Removes (ranks of eq1 eq2) laws old new sound (has_both of eq1 eq2 k l) reply step
  IsSound-Step old new (Reserve n) reply sound step = IsSound-Reserves (ranks of eq1 eq2) laws old new sound n reply step
  IsSound-Step old new (ShrinkTo n) reply sound step = IsSound-ShrinksTo (ranks of eq1 eq2) laws old new sound n reply step
  IsSound-Step old new ShrinkToFit reply sound step = IsSound-ShrinksTo (ranks of eq1 eq2) laws old new sound 0 reply step
  IsSound-Step old new Clear reply sound step = IsSound-Clears (ranks of eq1 eq2) laws old new sound reply step
  IsSound-Step old new Len reply sound step = IsSound-Sizes (ranks of eq1 eq2) laws old new sound reply step
  IsSound-Step old new Items reply sound step = IsSound-Lists (ranks of eq1 eq2) laws old new sound reply step
  IsSound-Step old new (Extend xs) reply sound step = IsSound-Extends (ranks of eq1 eq2) laws old new sound xs.items reply step
  IsSound-Step old new (ExtendUnique xs) reply sound step = IsSound-ExtendsUnique (ranks of eq1 eq2) laws old new sound xs.items reply step
  IsSound-Step old new (EntryInsert k l x) reply sound step = IsSound-EntryInserts (ranks of eq1 eq2) laws old new sound (key_tests of eq1 eq2 k l) x reply step
  IsSound-Step old new (EntryRemove k l) reply sound step = IsSound-EntryRemoves (ranks of eq1 eq2) laws old new sound (key_tests of eq1 eq2 k l) reply step
  IsSound-Step old new (OrInsert k l x) reply sound step = IsSound-OrInserts (ranks of eq1 eq2) laws old new sound (key_tests of eq1 eq2 k l) x reply step
  IsSound-Step old new (Replace1 k x) reply sound step = IsSound-Replaces (ranks of eq1 eq2) laws old new sound (has1 of eq1 k) x reply step
  IsSound-Step old new (Replace2 k x) reply sound step = IsSound-Replaces (ranks of eq1 eq2) laws old new sound (has2 of eq2 k) x reply step
  IsSound-Step old new (Set1 k d) reply sound step = IsSound-Sets (ranks of eq1 eq2) laws old new sound put keeps (has1 of eq1 k) d reply step
  IsSound-Step old new (Set2 k d) reply sound step = IsSound-Sets (ranks of eq1 eq2) laws old new sound put keeps (has2 of eq2 k) d reply step

  pub IsSound-Run : {S F : Type 0} (took : S → Reply T D → Result (Unit {0}) F → S → Type 0) (commands : List (BiCommand T D K1 K2))
      (old new : State T) (sink after : S) (answer : Result (Unit {0}) F) → IsSound (ranks of eq1 eq2) old.items
      → Run (Step of eq1 eq2 put) took old sink commands answer new after → IsSound (ranks of eq1 eq2) new.items
  IsSound-Run took commands old new sink after answer sound run =
      run_keeps (Step of eq1 eq2 put) took (λ (s : State T). IsSound (ranks of eq1 eq2) s.items) (λ old new command reply before step fits. IsSound-Step old new command reply before step)
      commands old new sink after answer sound run
