-- The kind `bi`: its items, what its words mean, and what a run prints.
use Rattle.std.specs.Prelude.{ℕ, nat_eq, List, [], ◌∷◌, Option, Some, None}
use Rattle.std.specs.Option.{option_map}
use Rattle.iddqd_commands.specs.Reply.{Reply}
use Rattle.iddqd_store.specs.Map.State.{State}
use Rattle.iddqd_commands_bi.specs.Step.{Step}
use Rattle.iddqd_bi.specs.declared.item.BiHashItem as of
use Rattle.iddqd_commands_bi.specs.declared.command.BiCommand.{BiCommand}
use Rattle.iddqd_commands_bi.specs.declared.command.BiCommand.TheVariants as command
use Rattle.iddqd_text.specs.Commands.{Spelled, single, add_all}
use Rattle.iddqd_text.specs.Outputs as outputs
use Rattle.iddqd_text.specs.Printed.{line_of}
use Rattle.iddqd_text.specs.declared.item.bi.BiItem.{BiItem}
use Rattle.iddqd_text.specs.declared.words.Word.{Word}
use Rattle.iddqd_text.specs.declared.words.Word.TheVariants.{New, Get1, Get2, Both, Del1, Del2, DelBoth}
use Rattle.iddqd_text.specs.declared.words.Word.TheVariants.{Len, Put, Reserve, Fit, Clear, List as ListAll}
use Rattle.iddqd_text.specs.declared.words.Word.TheVariants.{Replace1, Set1, EntPut, EntDel, OrPut, AddAll}

-- the numbers of an item
abbrev pub numbers : BiItem → List ℕ
numbers item = item.key1 ∷ item.key2 ∷ item.value ∷ []

-- the item of these numbers
abbrev pub item : (k1 k2 v : ℕ) → BiItem
item k1 k2 v = record { key1 = k1; key2 = k2; value = v }

-- the keys of an item
abbrev pub keys : of.Ghosts BiItem ℕ ℕ
keys = record { key1 = λ item. item.key1; key2 = λ item. item.key2 }

-- the item with other data
abbrev pub with_value : BiItem → ℕ → BiItem
with_value item value = record item { value = value }

-- the commands of a map of these items
abbrev pub Command : Type 0
Command = BiCommand BiItem ℕ ℕ ℕ

-- the command of a word with its numbers, where it holds no list
abbrev pub single_of : Word → List ℕ → Option Command
single_of New (k1 ∷ k2 ∷ v ∷ []) = Some (command.InsertUnique (item k1 k2 v))
single_of Get1 (k ∷ []) = Some (command.Get1 k)
single_of Get2 (k ∷ []) = Some (command.Get2 k)
single_of Both (k1 ∷ k2 ∷ []) = Some (command.GetUnique k1 k2)
single_of Del1 (k ∷ []) = Some (command.Remove1 k)
single_of Del2 (k ∷ []) = Some (command.Remove2 k)
single_of DelBoth (k1 ∷ k2 ∷ []) = Some (command.RemoveUnique k1 k2)
single_of Len [] = Some command.Len
single_of Put (k1 ∷ k2 ∷ v ∷ []) = Some (command.InsertOverwrite (item k1 k2 v))
single_of Reserve (n ∷ []) = Some (command.Reserve n)
single_of Fit [] = Some command.ShrinkToFit
single_of Clear [] = Some command.Clear
single_of ListAll [] = Some command.Items
single_of Replace1 (k ∷ x1 ∷ x2 ∷ v ∷ []) = Some (command.Replace1 k (item x1 x2 v))
single_of Set1 (k ∷ v ∷ []) = Some (command.Set1 k v)
single_of EntPut (k1 ∷ k2 ∷ x1 ∷ x2 ∷ v ∷ []) = Some (command.EntryInsert k1 k2 (item x1 x2 v))
single_of EntDel (k1 ∷ k2 ∷ []) = Some (command.EntryRemove k1 k2)
single_of OrPut (k1 ∷ k2 ∷ x1 ∷ x2 ∷ v ∷ []) = Some (command.OrInsert k1 k2 (item x1 x2 v))
-- no other word spells one, and no word with other numbers
single_of word numbers = None

-- the items of the numbers, one after the other, if no number is left over
abbrev pub items_of : List ℕ → Option (List BiItem)
items_of [] = Some []
items_of (k1 ∷ k2 ∷ v ∷ numbers) = option_map (λ items. item k1 k2 v ∷ items) (items_of numbers)
items_of numbers = None

-- what a word with its numbers spells
abbrev pub command_of : Word → List ℕ → Option (Spelled Command BiItem)
command_of AddAll numbers = option_map add_all (items_of numbers)
command_of word numbers = option_map single (single_of word numbers)

-- what a command is spelled by
abbrev pub spelled : Command → Spelled Command BiItem
spelled (command.ExtendUnique xs) = add_all xs.items
spelled other = single other

-- what each command may return
abbrev pub Steps : State BiItem → Command → Reply BiItem ℕ → State BiItem → Type 0
Steps = Step keys nat_eq nat_eq with_value

-- what a run of the commands on a new map prints
abbrev pub Prints : List Command → List ℕ → Type 0
Prints commands output = outputs.Prints Steps (line_of numbers) commands output
