-- Made by tests/widths from crates/iddqd_commands_bi/specs/EntryReplies.antt: change that file.

-- The value of the reply to an item that a vacant entry rejected.
use Rattle.iddqd_commands.specs.Reply.{Reply, key, memory}
use Rattle.iddqd_tri.specs.declared.error.EntryError.{EntryError}
use Rattle.iddqd_tri.specs.declared.error.EntryError.TheVariants.{Key1, Key2, Key3, Memory}

-- `refusal_value` is the value of the reply to an item that a vacant entry rejects.
-- Example: For `Memory x` it is `memory x`.
abbrev pub refusal_value : {T D : Type 0} → EntryError T → Reply T D
refusal_value (Key1 x) = key 0 x
refusal_value (Key2 x) = key 1 x
refusal_value (Key3 x) = key 2 x
refusal_value (Memory x) = memory x
