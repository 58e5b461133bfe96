-- Worked rows on the text rules, by computation.
use Rattle.std.proofs.Common.{◌≡◌, refl, ℕ, [], ◌∷◌, Some, None}
use Rattle.std.specs.Fmt.{digits}
use Rattle.std.specs.Prelude.{codes}
use Rattle.iddqd_commands.specs.Reply.{done, duplicate, displaced, found, taken, memory, refused, size, items, kept, key, absent, absent_data, extend_refused}
use Rattle.iddqd_store.specs.declared.error.InsertReason.TheVariants.{Duplicate, Memory}
use Rattle.iddqd_text.specs.Commands.{single, add_all, command_of_line, first_bad_line}
use Rattle.iddqd_text.specs.Lines.{lines_of}
use Rattle.iddqd_text.specs.Numbers.{number_of}
use Rattle.iddqd_text.specs.Printed.{line_of, printed, bad_line_message}
use Rattle.iddqd_text.specs.Sorted.{by_first_key}
use Rattle.iddqd_text.specs.ThreeKeys as three_keys
use Rattle.iddqd_text.specs.TwoKeys.{command_of, numbers}
use Rattle.iddqd_text.specs.declared.item.bi.BiItem.{BiItem}
use Rattle.iddqd_commands_tri.specs.declared.command.TriCommand.TheVariants as three_keys_command
use Rattle.iddqd_commands_bi.specs.declared.command.BiCommand.TheVariants.{InsertUnique, Remove1, Items, Replace1, Set1, EntryInsert, EntryRemove, OrInsert}

-- lines: what follows the last line end is a line if it isn't empty
no_line : lines_of [] ≡ []
no_line = refl

two_lines : lines_of (codes "ab\nc") ≡ codes "ab" ∷ codes "c" ∷ []
two_lines = refl

ended_line : lines_of (codes "ab\n") ≡ codes "ab" ∷ []
ended_line = refl

empty_lines : lines_of (codes "\n\n") ≡ [] ∷ [] ∷ []
empty_lines = refl

-- numbers
largest : number_of (codes "18446744073709551615") ≡ Some 18446744073709551615
largest = refl

too_large : number_of (codes "18446744073709551616") ≡ None
too_large = refl

leading_zeros : number_of (codes "007") ≡ Some 7
leading_zeros = refl

signed : number_of (codes "+1") ≡ None
signed = refl

-- commands
insertion : command_of_line command_of (codes "new 1 10 100") ≡ Some (single (InsertUnique (record { key1 = 1; key2 = 10; value = 100 })))
insertion = refl

removal : command_of_line command_of (codes "del1 7") ≡ Some (single (Remove1 7))
removal = refl

listing : command_of_line command_of (codes "list") ≡ Some (single Items)
listing = refl

too_few : command_of_line command_of (codes "new 1 10") ≡ None
too_few = refl

too_many : command_of_line command_of (codes "get1 1 2") ≡ None
too_many = refl

space_before : command_of_line command_of (codes " get1 1") ≡ None
space_before = refl

space_behind : command_of_line command_of (codes "get1 1 ") ≡ None
space_behind = refl

two_spaces : command_of_line command_of (codes "get1  1") ≡ None
two_spaces = refl

carriage_return : command_of_line command_of (codes "get1 1\r") ≡ None
carriage_return = refl

unknown_word : first_bad_line command_of (codes "new 1 10 100\nget3 1\n") ≡ Some 2
unknown_word = refl

number_behind_list : command_of_line command_of (codes "list 1") ≡ None
number_behind_list = refl

replacement : command_of_line command_of (codes "replace1 5 1 10 7") ≡ Some (single (Replace1 5 (record { key1 = 1; key2 = 10; value = 7 })))
replacement = refl

writing : command_of_line command_of (codes "set1 5 8") ≡ Some (single (Set1 5 8))
writing = refl

entry_insertion : command_of_line command_of (codes "entput 5 6 1 10 7") ≡ Some (single (EntryInsert 5 6 (record { key1 = 1; key2 = 10; value = 7 })))
entry_insertion = refl

entry_removal : command_of_line command_of (codes "entdel 5 6") ≡ Some (single (EntryRemove 5 6))
entry_removal = refl

insertion_if_vacant : command_of_line command_of (codes "orput 5 6 1 10 7") ≡ Some (single (OrInsert 5 6 (record { key1 = 1; key2 = 10; value = 7 })))
insertion_if_vacant = refl

keys_without_an_item : command_of_line command_of (codes "entput 1 2 3 4") ≡ None
keys_without_an_item = refl

addition_of_none : command_of_line command_of (codes "addall") ≡ Some (add_all [])
addition_of_none = refl

addition_of_two : command_of_line command_of (codes "addall 3 30 0 4 40 7") ≡ Some (add_all (record { key1 = 3; key2 = 30; value = 0 } ∷ record { key1 = 4; key2 = 40; value = 7 } ∷ []))
addition_of_two = refl

one_number_alone : command_of_line command_of (codes "addall 1") ≡ None
one_number_alone = refl

item_without_a_value : command_of_line command_of (codes "addall 1 2") ≡ None
item_without_a_value = refl

one_number_left_over : command_of_line command_of (codes "addall 1 2 3 4") ≡ None
one_number_left_over = refl

space_behind_addall : command_of_line command_of (codes "addall ") ≡ None
space_behind_addall = refl

two_spaces_behind_addall : command_of_line command_of (codes "addall  1 2 3") ≡ None
two_spaces_behind_addall = refl

-- items by their first keys
abbrev item : ℕ → ℕ → BiItem
item k value = record { key1 = k; key2 = value; value = value }

sorted_items : by_first_key numbers (item 3 0 ∷ item 2 1 ∷ item 3 2 ∷ item 2 3 ∷ []) ≡ item 2 1 ∷ item 2 3 ∷ item 3 0 ∷ item 3 2 ∷ []
sorted_items = refl

-- the line of each reply
abbrev whole : ℕ → ℕ → ℕ → BiItem
whole k1 k2 v = record { key1 = k1; key2 = k2; value = v }

ok_line : line_of numbers done ≡ codes "ok\n"
ok_line = refl

dup_line : line_of numbers (duplicate (whole 2 10 5) (whole 2 20 200 ∷ whole 1 10 100 ∷ [])) ≡ codes "dup (2 20 200) (1 10 100)\n"
unfolding printed digits
dup_line = refl

out_line : line_of numbers (displaced (whole 1 10 100 ∷ whole 2 20 200 ∷ [])) ≡ codes "out (1 10 100) (2 20 200)\n"
unfolding printed digits
out_line = refl

out_of_none : line_of numbers (displaced []) ≡ codes "out\n"
out_of_none = refl

found_line : line_of numbers (found (Some (whole 1 10 100))) ≡ codes "item (1 10 100)\n"
unfolding printed digits
found_line = refl

not_found_line : line_of numbers (found None) ≡ codes "none\n"
not_found_line = refl

taken_line : line_of numbers (taken (Some (whole 7 1 2))) ≡ codes "item (7 1 2)\n"
unfolding printed digits
taken_line = refl

none_taken_line : line_of numbers (taken None) ≡ codes "none\n"
none_taken_line = refl

memory_line : line_of numbers (memory (whole 18446744073709551615 0 10)) ≡ codes "memory (18446744073709551615 0 10)\n"
unfolding printed digits
memory_line = refl

refused_line : line_of numbers refused ≡ codes "memory\n"
refused_line = refl

len_line : line_of numbers (size 2) ≡ codes "len 2\n"
unfolding digits
len_line = refl

list_line : line_of numbers (items (whole 3 1 0 ∷ whole 2 2 0 ∷ [])) ≡ codes "list (2 2 0) (3 1 0)\n"
unfolding printed digits
list_line = refl

list_of_none : line_of numbers (items []) ≡ codes "list\n"
list_of_none = refl

kept_line : line_of numbers kept ≡ codes "kept\n"
kept_line = refl

first_key_line : line_of numbers (key 0 (whole 6 50 0)) ≡ codes "key1 (6 50 0)\n"
unfolding printed digits
first_key_line = refl

second_key_line : line_of numbers (key 1 (whole 1 98 0)) ≡ codes "key2 (1 98 0)\n"
unfolding printed digits
second_key_line = refl

third_key_line : line_of numbers (key 2 (whole 1 2 3)) ≡ codes "key3 (1 2 3)\n"
unfolding printed digits
third_key_line = refl

absent_line : line_of numbers (absent (whole 1 10 7)) ≡ codes "absent (1 10 7)\n"
unfolding printed digits
absent_line = refl

absent_data_line : line_of numbers (absent_data 8) ≡ codes "none\n"
absent_data_line = refl

conflict_line : line_of numbers (extend_refused Duplicate (whole 3 30 0 ∷ []) (whole 4 30 0)) ≡ codes "conflict (4 30 0)\n"
unfolding printed digits
conflict_line = refl

list_without_memory_line : line_of numbers (extend_refused Memory (whole 3 30 0 ∷ []) (whole 4 30 0)) ≡ codes "memory (4 30 0)\n"
unfolding printed digits
list_without_memory_line = refl

bad_line : bad_line_message 12 ≡ codes "line 12: bad command\n"
unfolding digits
bad_line = refl

-- the same words at three keys
insertion_of_three_keys : command_of_line three_keys.command_of (codes "new 1 10 100 7") ≡ Some (single (three_keys_command.InsertUnique (record { key1 = 1; key2 = 10; key3 = 100; value = 7 })))
insertion_of_three_keys = refl

third_key_lookup : command_of_line three_keys.command_of (codes "get3 7") ≡ Some (single (three_keys_command.Get3 7))
third_key_lookup = refl

too_few_for_three_keys : command_of_line three_keys.command_of (codes "new 1 10 100") ≡ None
too_few_for_three_keys = refl

addition_of_none_of_three_keys : command_of_line three_keys.command_of (codes "addall") ≡ Some (add_all [])
addition_of_none_of_three_keys = refl

addition_of_two_of_three_keys : command_of_line three_keys.command_of (codes "addall 2 20 200 0 3 30 300 9")
    ≡ Some (add_all (record { key1 = 2; key2 = 20; key3 = 200; value = 0 } ∷ record { key1 = 3; key2 = 30; key3 = 300; value = 9 } ∷ []))
addition_of_two_of_three_keys = refl

two_numbers_left_over : command_of_line three_keys.command_of (codes "addall 1 2 3 4 5 6") ≡ None
two_numbers_left_over = refl

three_numbers_alone : command_of_line three_keys.command_of (codes "addall 1 2 3") ≡ None
three_numbers_alone = refl
