-- How items and replies are printed. An item is printed as its numbers, of which the first is its first key.
use Rattle.std.specs.Prelude.{ℕ, ◌+◌, List, [], ◌∷◌, ◌++◌, codes, Option, Some, None, true, false}
use Rattle.std.specs.Fmt.{decimal}
use Rattle.std.specs.List.{flat_map}
use Rattle.iddqd_commands.specs.Reply.{Reply, done, duplicate, found, taken, memory, displaced, present}
use Rattle.iddqd_commands.specs.Reply.{refused, size, items, kept, key, absent, absent_data, extend_refused}
use Rattle.iddqd_store.specs.declared.error.InsertReason.TheVariants.{Duplicate, Memory}
use Rattle.iddqd_text.specs.Sorted.{by_first_key}

-- a space and the number, for each, and the bracket after them
abbrev pub to_the_bracket : List ℕ → List ℕ
to_the_bracket [] = codes ")"
to_the_bracket (n ∷ numbers) = codes " " ++ decimal n ++ to_the_bracket numbers

-- the numbers in brackets, with a space between each two
unfoldable pub printed : List ℕ → List ℕ
printed [] = codes "()"
printed (n ∷ numbers) = codes "(" ++ decimal n ++ to_the_bracket numbers

module _ {T : Type 0} (numbers : T → List ℕ) where
  -- a space and the item, for each
  abbrev pub items_text : List T → List ℕ
  items_text xs = flat_map (λ item. codes " " ++ printed (numbers item)) xs

  abbrev pub found_line : Option T → List ℕ
  found_line None = codes "none\n"
  found_line (Some item) = codes "item " ++ printed (numbers item) ++ codes "\n"

  -- the line of a reply
  abbrev pub line_of : Reply T ℕ → List ℕ
  line_of done = codes "ok\n"
  line_of (duplicate item duplicates) = codes "dup" ++ items_text duplicates ++ codes "\n"
  line_of (found item) = found_line item
  line_of (taken item) = found_line item
  line_of (displaced out) = codes "out" ++ items_text out ++ codes "\n"
  line_of (memory item) = codes "memory " ++ printed (numbers item) ++ codes "\n"
  line_of refused = codes "memory\n"
  line_of (size count) = codes "len " ++ decimal count ++ codes "\n"
  line_of (items xs) = codes "list" ++ items_text (by_first_key numbers xs) ++ codes "\n"
  line_of kept = codes "kept\n"
  -- ranks are counted from 1 here
  line_of (key r item) = codes "key" ++ decimal (r + 1) ++ codes " " ++ printed (numbers item) ++ codes "\n"
  line_of (absent item) = codes "absent " ++ printed (numbers item) ++ codes "\n"
  line_of (absent_data value) = codes "none\n"
  line_of (extend_refused Duplicate before item) = codes "conflict " ++ printed (numbers item) ++ codes "\n"
  line_of (extend_refused Memory before item) = codes "memory " ++ printed (numbers item) ++ codes "\n"
  -- no word of the program asks for these
  line_of (present true) = codes "yes\n"
  line_of (present false) = codes "no\n"

-- what is printed if a line is bad
abbrev pub bad_line_message : ℕ → List ℕ
bad_line_message number = codes "line " ++ decimal number ++ codes ": bad command\n"
