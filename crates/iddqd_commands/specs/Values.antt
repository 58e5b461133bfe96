-- The value of a reply.
use Rattle.std.specs.Prelude.{List, map, option_copied}
use Rattle.std.specs.Borrow.{Bor}
use Rattle.iddqd_commands.specs.Reply.{Reply, done, duplicate, displaced, found, present, taken, memory}
use Rattle.iddqd_commands.specs.Reply.{refused, size, items, kept, key, absent, absent_data, extend_refused}
use Rattle.iddqd_commands.specs.declared.reply.MapReply.{MapReply}
use Rattle.iddqd_commands.specs.declared.reply.MapReply.TheVariants.{Done, Duplicate, Displaced, Found, Present, Taken}
use Rattle.iddqd_commands.specs.declared.reply.MapReply.TheVariants.{Memory, Refused, Length, Items, Kept, Key1, Key2}
use Rattle.iddqd_commands.specs.declared.reply.MapReply.TheVariants.{Key3, Absent, AbsentData, ExtendRefused}

-- `value_by` is the value of a reply, where `lent` and `given` are the lists of what its short lists hold.
-- Example: For `Length 3` it is `size 3`.
abbrev pub value_by : {T D L G : Type 0} → (L → List (Bor T)) → (G → List T) → MapReply T D L G → Reply T D
value_by lent given Done = done
value_by lent given (Duplicate d) = duplicate d.new_item (map (λ b. b.now) (lent d.duplicates))
value_by lent given (Displaced ys) = displaced (given ys)
value_by lent given (Found o) = found (option_copied o)
value_by lent given (Present b) = present b
value_by lent given (Taken o) = taken o
value_by lent given (Memory x) = memory x
value_by lent given Refused = refused
value_by lent given (Length n) = size n
value_by lent given (Items xs) = items xs
value_by lent given Kept = kept
value_by lent given (Key1 x) = key 0 x
value_by lent given (Key2 x) = key 1 x
value_by lent given (Key3 x) = key 2 x
value_by lent given (Absent x) = absent x
value_by lent given (AbsentData d) = absent_data d
value_by lent given (ExtendRefused before x reason) = extend_refused reason before.items x

-- `value_of` is the value of a reply that has lists of items.
-- Example: For `Length 3` it is `size 3`.
abbrev pub value_of : {T D : Type 0} → MapReply T D (List (Bor T)) (List T) → Reply T D
value_of reply = value_by (λ lent. lent) (λ given. given) reply
