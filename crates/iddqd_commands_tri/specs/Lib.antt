-- Made by tests/widths from crates/iddqd_commands_bi/specs/Lib.antt: change that file.
pub mod EntryReplies
pub mod Step
